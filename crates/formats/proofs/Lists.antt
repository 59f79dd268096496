-- Counted lists and blocks, each with its layout. Assumes nothing.
use Rattle.std.proofs.Common.{◌≡◌, ℕ, zero, suc, ◌+◌, ◌≤◌, cond, leb, List, [], ◌∷◌, ◌++◌, map, length, Ok, Err, Result, sym, refl, ap, ◌∙◌, subst, ap₂, subst₂, arith}
use Rattle.std.specs.List.{flat_map, AllByRecursion}
use Rattle.std.proofs.lemmas.List.{append-nil, append_assoc}
use Rattle.std.proofs.lemmas.Bool.{le-leb, leb-true}
use Rattle.formats.specs.declared.Place.{Place}
use Rattle.formats.specs.Reading.{end, bytes_at}
use Rattle.formats.specs.Readers.{then}
use Rattle.formats.specs.Readers.{items}
use Rattle.formats.specs.Bytes.{word, text, list_of, Short}
use Rattle.formats.proofs.Laid.{Laid, laid_nil, laid_append, laid_split, part_laid}
use Rattle.formats.proofs.Formats.{Small, Room, Stands, Reads, UpTo, Just, went, same_ok, field, guard, whole}

module _ {X D F : Type 0} (s : List ℕ) (last : ℕ) (read : ℕ → Result (X × ℕ) F) (view : X → D) (print : D → List ℕ) (keeps : D → Type 0) where
  record ItemsStand (i n : ℕ) (have : List X) (y : List X × ℕ) : Type 0 where
    new : List X
    all : have ++ new ≡ y.0
    laid : Laid s i y.1 (flat_map print (map view new))
    inside : y.1 ≤ last
    count : length (map view new) ≡ n
    kept : AllByRecursion keeps (map view new)

  record ItemsFound (i j n : ℕ) (have : List X) (ds : List D) : Type 0 where
    new : List X
    is : items read n have i ≡ Ok (have ++ new, j)
    shows : map view new ≡ ds

  abbrev pub Each : Type 0
  Each = (i : ℕ) → Reads s last i (UpTo last) (read i) (λ y. y.1) (λ y. view y.0) print keeps

  items_sound : Each → Small s → (n i : ℕ) (have : List X) → Room s last i → (y : List X × ℕ) → items read n have i ≡ Ok y → ItemsStand i n have y
  items_sound each small zero i have room y e =
      let same = same_ok e in
      subst (λ z. ItemsStand i 0 have z) same
      (record { new = []; all = append-nil have; laid = laid_nil s i; inside = room.left; count = refl; kept = tt })
  items_sound each small (suc n) i have room y e =
      let (x, is, after) = went (read i) (λ x. items read n (have ++ x.0 ∷ []) x.1) y e in
      let one = (each i).sound small room x is in
      let two = items_sound each small n x.1 (have ++ x.0 ∷ [])
      (record { inside = room.inside; left = one.ends }) y after in
      record {
        new = x.0 ∷ two.new;
        all = sym (append_assoc have (x.0 ∷ []) two.new) ∙ two.all;
        laid = laid_append one.laid two.laid;
        inside = two.inside;
        count = ap suc two.count;
        kept = (one.kept, two.kept);
      }

  items_complete : Each → last ≤ length s → (n i j : ℕ) (have : List X) (ds : List D) → length ds ≡ n → AllByRecursion keeps ds →
      Laid s i j (flat_map print ds) → j ≤ last → ItemsFound i j n have ds
  items_complete each inside zero i j have [] size kept laid m =
      let same : i ≡ j = omega (arith, laid.size) in
      record { new = []; is = ap₂ (λ l k. Ok (l, k)) (sym (append-nil have)) same; shows = refl }
  items_complete each inside zero i j have (d ∷ ds) size kept laid m = absurd (omega arith)
  items_complete each inside (suc n) i j have [] size kept laid m = absurd (omega arith)
  items_complete each inside (suc n) i j have (d ∷ ds) size kept laid m =
      let (p, q) = laid_split (print d) (flat_map print ds) laid in
      let one = (each i).complete (record { inside = inside; left = omega (arith, laid.size) }) d (i + length (print d)) kept.0 p (omega (arith, q.size)) in
      let x = one.value in
      let two = items_complete each inside n x.1 j (have ++ x.0 ∷ []) ds (omega arith) kept.1
      (subst (λ k. Laid s k j (flat_map print ds)) (sym one.stops) q) m in
      record {
        new = x.0 ∷ two.new;
        is = ap (λ r. then r (λ x. items read n (have ++ x.0 ∷ []) x.1)) one.is
            ∙ (two.is ∙ ap (λ l. Ok (l, j)) (append_assoc have (x.0 ∷ []) two.new));
        shows = ap₂ (λ a l. a ∷ l) one.shows two.shows;
      }

  abbrev pub Few : ℕ → List D → Type 0
  Few most ds = (length ds ≤ most) × AllByRecursion keeps ds

  pub items_reads : Each → (most n i : ℕ) → n ≤ most →
      Reads s last i (UpTo last) (items read n [] i) (λ y. y.1) (λ y. map view y.0) (flat_map print)
      (λ ds. Few most ds × (Unit × (length ds ≡ n)))
  items_reads each most n i few = record {
    sound = λ small room y e.
        let all = items_sound each small n i [] room y e in
        subst (λ l. Stands s i y.1 (UpTo last) (flat_map print (map view l)) (Few most (map view l) × (Unit × (length (map view l) ≡ n))))
        all.all
        (record { laid = all.laid; ends = all.inside; kept = ((omega (arith, all.count), all.kept), (tt, all.count)) });
    complete = λ room ds j k laid m.
        let all = items_complete each room.inside n i j [] ds k.1.1 k.0.1 laid m in
        record { value = (all.new, j); is = all.is; stops = refl; shows = all.shows };
  }

  -- a count of one byte, at most `most`, and so many things
  pub list_reads : Each → (most i : ℕ) (fault : F) {got : Result ℕ F} →
      Reads s last i (UpTo last) got (λ _. i + 1) (λ a. a) (λ a. a ∷ []) (λ _. Unit) →
      Reads s last i (UpTo last) (then got (λ n. cond (leb n most) (items read n [] (i + 1)) (Err fault)))
      (λ y. y.1) (λ y. map view y.0) (list_of print) (Few most)
  list_reads each most i fault got-reads =
      whole
      (field length (λ ds h _. tt) (λ n h. h) got-reads
      (λ n _ _ _. guard (leb n most) fault
      (λ ds j k laid m. le-leb n most (omega (arith, k.0.0, k.1.1)))
      (λ few. items_reads each most n (i + 1) (leb-true _ _ few))))

-- bytes behind their length, which are read to their end
pub block : {Y D F : Type 0} {s : List ℕ} {last i : ℕ} {got : Result Place F} {next : Place → Result Y F}
    {stop : Y → ℕ} {view : Y → D} {print : D → List ℕ} {keeps : D → Type 0} →
    Reads s last i (UpTo last) got end (bytes_at s) text Short → ((p : Place) → got ≡ Ok p → p.start ≡ i + 2) →
    ((p : Place) → Room s (end p) p.start → Reads s (end p) p.start (Just (end p)) (next p) stop view print keeps) →
    Reads s last i (UpTo last) (then got next) stop view (λ d. text (print d)) (λ d. keeps d × Short (print d))
block {s} {last} {i} {got} {next} {stop} {view} {print} {keeps} got-reads starts inner = record {
  sound = λ small room y e.
      let (p, is, after) = went got next y e in
      let one = got-reads.sound small room p is in
      let within : Room s (end p) p.start =
      record { inside = omega (arith, room.inside, one.ends); left = omega arith } in
      let two = (inner p within).sound small within y after in
      let ends = two.ends in
      let bytes : bytes_at s p ≡ print (view y) = part_laid (subst (λ j. Laid s p.start j (print (view y))) ends two.laid) in
      let all : Laid s i (end p) (text (print (view y))) = subst (λ bs. Laid s i (end p) (text bs)) bytes one.laid in
      record {
        laid = subst (λ j. Laid s i j (text (print (view y)))) (sym ends) all;
        ends = omega (arith, ends, one.ends);
        kept = (two.kept, subst Short bytes one.kept);
      };
  complete = λ room d j k laid m.
      let one = got-reads.complete room (print d) j k.1 laid m in
      let p = one.value in
      let (_, q) = laid_split (word (length (print d))) (print d) laid in
      let here : Laid s p.start (end p) (print d) =
      subst₂ (λ a b. Laid s a b (print d)) (sym (starts p one.is)) (sym one.stops) q in
      let within : Room s (end p) p.start = record { inside = omega (arith, one.stops, room.inside); left = omega arith } in
      let two = (inner p within).complete within d (end p) k.0 here refl in
      record {
        value = two.value;
        is = ap (λ r. then r next) one.is ∙ two.is;
        stops = two.stops ∙ one.stops;
        shows = two.shows;
      };
}
