-- A reader and its layout. Assumes nothing.
use Rattle.std.proofs.Common.{◌≡◌, ℕ, ◌+◌, ◌<◌, ◌≤◌, Bool, true, false, cond, ltb, List, [], ◌++◌, length, Ok, Err, Result, sym, refl, ap, ◌∙◌, subst, arith}
use Rattle.std.specs.List.{AllByRecursion}
use Rattle.formats.specs.Readers.{then}
use Rattle.std.proofs.lemmas.List.{append-nil}
use Rattle.std.proofs.lemmas.Bool.{true≢false, false≢true, ltb-false, le-ltb}
use Rattle.formats.specs.Readers.{faulted}
use Rattle.formats.proofs.Laid.{Laid, laid_nil, laid_append, laid_split}

abbrev pub Small : List ℕ → Type 0
Small s = AllByRecursion (λ b. b < 256) s

-- a field that ends before `last` is read from `i` on
pub record Room (s : List ℕ) (last i : ℕ) : Type 0 where
  pub inside : last ≤ length s
  pub left : i ≤ last

-- what was read stands there
pub record Stands (s : List ℕ) (i j : ℕ) (may : ℕ → Type 0) (bs : List ℕ) (Kept : Type 0) : Type 0 where
  pub laid : Laid s i j bs
  pub ends : may j
  pub kept : Kept

-- what stands there is read
pub record Found {Y D F : Type 0} (result : Result Y F) (stop : Y → ℕ) (view : Y → D) (d : D) (j : ℕ) : Type 0 where
  pub value : Y
  pub is : result ≡ Ok value
  pub stops : stop value ≡ j
  pub shows : view value ≡ d

-- A result of reading `s` at `i`, in a field that ends before `last`, and the layout of what it describes.
-- `stop` says where what was read ends, and `may` which ends a reader admits: any up to `last`, or `last` alone.
-- `keeps` has the limits, the rules, and what is known from the bytes before.
pub record Reads
    (s : List ℕ) (last i : ℕ) (may : ℕ → Type 0) {Y D F : Type 0}
    (result : Result Y F) (stop : Y → ℕ) (view : Y → D) (print : D → List ℕ) (keeps : D → Type 0) : Type 0 where
  pub sound : Small s → Room s last i → (y : Y) → result ≡ Ok y → Stands s i (stop y) may (print (view y)) (keeps (view y))
  pub complete : Room s last i → (d : D) (j : ℕ) → keeps d → Laid s i j (print d) → may j → Found result stop view d j

abbrev pub UpTo : ℕ → ℕ → Type 0
UpTo last n = n ≤ last

abbrev pub Just : ℕ → ℕ → Type 0
Just last n = n ≡ last

pub went : {X Y F : Type 0} (r : Result X F) (f : X → Result Y F) (y : Y) → then r f ≡ Ok y →
    (x : X) × (r ≡ Ok x) × (f x ≡ Ok y)
went (Ok x) f y e = (x, refl, e)
went (Err g) f y e = let z : ◌≡◌ {A = ℕ} 0 1 = cc in absurd (omega arith)

pub same_ok : {Y F : Type 0} {x y : Y} → ◌≡◌ {A = Result Y F} (Ok x) (Ok y) → x ≡ y
same_ok e = cc

pub was_ok : {Y F G : Type 0} (as-fault : F → G) (r : Result Y F) (y : Y) → faulted as-fault r ≡ Ok y → r ≡ Ok y
was_ok as-fault (Ok x) y e = ap Ok (same_ok e)
was_ok as-fault (Err f) y e = let z : ◌≡◌ {A = ℕ} 0 1 = cc in absurd (omega arith)

pub passed : {Y F : Type 0} (b : Bool) (f : F) (x y : Y) → cond b (Ok x) (Err f) ≡ Ok y → x ≡ y
passed true f x y e = same_ok e
passed false f x y e = let z : ◌≡◌ {A = ℕ} 0 1 = cc in absurd (omega arith)

pub not_refused : {Y F : Type 0} (b : Bool) (f : F) (x y : Y) → cond b (Err f) (Ok x) ≡ Ok y → (b ≡ false) × (x ≡ y)
not_refused true f x y e = let z : ◌≡◌ {A = ℕ} 0 1 = cc in absurd (omega arith)
not_refused false f x y e = (refl, same_ok e)

module _ {s : List ℕ} {last i : ℕ} {may : ℕ → Type 0} where
  -- nothing more is read: what was read is all of what is described
  pub done : {Y D F : Type 0} {stop : Y → ℕ} {view : Y → D} {keeps known : D → Type 0} (y : Y) →
      stop y ≡ i → (i ≤ last → may i) → keeps (view y) → known (view y) → ((d : D) → keeps d → known d → view y ≡ d) →
      Reads s last i may {F = F} (Ok y) stop view (λ _. []) (λ d. keeps d × known d)
  done {Y} {D} {F} {stop} {view} {keeps} {known} y stops ends kept knows only = record {
    sound = λ small room z e.
        let P : Y → Type 0 = λ z. Stands s i (stop z) may [] (keeps (view z) × known (view z)) in
        let Q : ℕ → Type 0 = λ j. Stands s i j may [] (keeps (view y) × known (view y)) in
        let here : Stands s i i may [] (keeps (view y) × known (view y)) =
        record { laid = laid_nil s i; ends = ends room.left; kept = (kept, knows) } in
        subst P (same_ok e) (subst Q (sym stops) here);
    complete = λ room d j k laid m. record { value = y; is = refl; stops = omega (arith, laid.size, stops); shows = only d k.0 k.1 };
  }

  -- a part, and then others
  pub field : {X E Y D F : Type 0} {got : Result X F} {mid : X → ℕ} {viewX : X → E} {printX : E → List ℕ} {keepsX : E → Type 0}
      {next : X → Result Y F} {stop : Y → ℕ} {view : Y → D} {rest : D → List ℕ} {keeps known : D → Type 0}
      (part : D → E) → ((d : D) → keeps d → known d → keepsX (part d)) → ((n : ℕ) → may n → n ≤ last) →
      Reads s last i (UpTo last) got mid viewX printX keepsX →
      ((x : X) → got ≡ Ok x → keepsX (viewX x) → Room s last (mid x) → Reads s last (mid x) may (next x) stop view rest (λ d. keeps d × (known d × (part d ≡ viewX x)))) →
      Reads s last i may (then got next) stop view (λ d. printX (part d) ++ rest d) (λ d. keeps d × known d)
  field {got} {mid} {viewX} {printX} {keepsX} {next} {stop} {view} {rest} {keeps} {known} part holds below first others = record {
    sound = λ small room y e.
        let (x, is, after) = went got next y e in
        let one = first.sound small room x is in
        let on : Room s last (mid x) = record { inside = room.inside; left = one.ends } in
        let two = (others x is one.kept on).sound small on y after in
        let same = two.kept.1.1 in
        record {
          laid = subst (λ p. Laid s i (stop y) (printX p ++ rest (view y))) (sym same) (laid_append one.laid two.laid);
          ends = two.ends;
          kept = (two.kept.0, two.kept.1.0);
        };
    complete = λ room d j k laid m.
        let (p, q) = laid_split (printX (part d)) (rest d) laid in
        let one = first.complete room (part d) (i + length (printX (part d))) (holds d k.0 k.1) p (omega (arith, q.size, below j m)) in
        let on : Room s last (mid one.value) =
        record { inside = room.inside; left = omega (arith, one.stops, q.size, below j m) } in
        let two = (others one.value one.is (subst keepsX (sym one.shows) (holds d k.0 k.1)) on).complete on d j (k.0, (k.1, sym one.shows))
        (subst (λ n. Laid s n j (rest d)) (sym one.stops) q) m in
        record {
          value = two.value;
          is = ap (λ r. then r next) one.is ∙ two.is;
          stops = two.stops;
          shows = two.shows;
        };
  }

  -- a part, after which no byte is read
  pub final : {X E Y D F : Type 0} {got : Result X F} {mid : X → ℕ} {viewX : X → E} {printX : E → List ℕ} {keepsX : E → Type 0}
      {next : X → Result Y F} {stop : Y → ℕ} {view : Y → D} {keeps known : D → Type 0}
      (part : D → E) → ((d : D) → keeps d → known d → keepsX (part d)) → ((n : ℕ) → may n → n ≤ last) →
      Reads s last i may got mid viewX printX keepsX →
      ((x : X) → got ≡ Ok x → keepsX (viewX x) → Room s last (mid x) → may (mid x) → Reads s last (mid x) may (next x) stop view (λ _. []) (λ d. keeps d × (known d × (part d ≡ viewX x)))) →
      Reads s last i may (then got next) stop view (λ d. printX (part d)) (λ d. keeps d × known d)
  final {got} {mid} {viewX} {printX} {keepsX} {next} {stop} {view} {keeps} {known} part holds below first others = record {
    sound = λ small room y e.
        let (x, is, after) = went got next y e in
        let one = first.sound small room x is in
        let on : Room s last (mid x) = record { inside = room.inside; left = below (mid x) one.ends } in
        let two = (others x is one.kept on one.ends).sound small on y after in
        let same = two.kept.1.1 in
        let both : Laid s i (stop y) (printX (viewX x) ++ []) = laid_append one.laid two.laid in
        let all : Laid s i (stop y) (printX (viewX x)) = subst (λ bs. Laid s i (stop y) bs) (append-nil (printX (viewX x))) both in
        record {
          laid = subst (λ p. Laid s i (stop y) (printX p)) (sym same) all;
          ends = two.ends;
          kept = (two.kept.0, two.kept.1.0);
        };
    complete = λ room d j k laid m.
        let one = first.complete room (part d) j (holds d k.0 k.1) laid m in
        let on : Room s last (mid one.value) =
        record { inside = room.inside; left = omega (arith, one.stops, below j m) } in
        let two = (others one.value one.is (subst keepsX (sym one.shows) (holds d k.0 k.1)) on (subst may (sym one.stops) m)).complete on d j (k.0, (k.1, sym one.shows))
        (subst (λ n. Laid s n j []) (sym one.stops) (laid_nil s j)) m in
        record {
          value = two.value;
          is = ap (λ r. then r next) one.is ∙ two.is;
          stops = two.stops;
          shows = two.shows;
        };
  }

  -- a test that what is described passes
  pub guard : {Y D F : Type 0} {result : Result Y F} {stop : Y → ℕ} {view : Y → D} {print : D → List ℕ} {keeps : D → Type 0}
      (b : Bool) (fault : F) → ((d : D) (j : ℕ) → keeps d → Laid s i j (print d) → may j → b ≡ true) → (b ≡ true → Reads s last i may result stop view print keeps) →
      Reads s last i may (cond b result (Err fault)) stop view print keeps
  guard true fault passes then-reads = then-reads refl
  guard {Y} {keeps} false fault passes then-reads = record {
    sound = λ small room y e. let z : ◌≡◌ {A = ℕ} 0 1 = cc in absurd (omega arith);
    complete = λ room d j k laid m. absurd (false≢true (passes d j k laid m));
  }

  -- a test that what is described fails
  pub guard_not : {Y D F : Type 0} {result : Result Y F} {stop : Y → ℕ} {view : Y → D} {print : D → List ℕ} {keeps : D → Type 0}
      (b : Bool) (fault : F) → ((d : D) (j : ℕ) → keeps d → Laid s i j (print d) → may j → b ≡ false) →
      (b ≡ false → Reads s last i may result stop view print keeps) →
      Reads s last i may (cond b (Err fault) result) stop view print keeps
  guard_not false fault passes then-reads = then-reads refl
  guard_not true fault passes then-reads = record {
    sound = λ small room y e. let z : ◌≡◌ {A = ℕ} 0 1 = cc in absurd (omega arith);
    complete = λ room d j k laid m. absurd (true≢false (passes d j k laid m));
  }

  -- something that what is described lets succeed, without a byte read
  pub attempt : {X Y D F : Type 0} {next : X → Result Y F} {stop : Y → ℕ} {view : Y → D} {print : D → List ℕ} {keeps : D → Type 0}
      (c : Result X F) → ((d : D) → keeps d → (x : X) × (c ≡ Ok x)) → ((x : X) → c ≡ Ok x → Reads s last i may (next x) stop view print keeps) →
      Reads s last i may (then c next) stop view print keeps
  attempt (Ok x) passes then-reads = then-reads x refl
  attempt (Err f) passes then-reads = record {
    sound = λ small room y e. let z : ◌≡◌ {A = ℕ} 0 1 = cc in absurd (omega arith);
    complete = λ room d j k laid m.
        let (x, e) = passes d k in
        let z : ◌≡◌ {A = ℕ} 0 1 = cc in absurd (omega arith);
  }

  -- nothing is known before the first part
  pub whole : {Y D F : Type 0} {result : Result Y F} {stop : Y → ℕ} {view : Y → D} {print : D → List ℕ} {keeps : D → Type 0} →
      Reads s last i may result stop view print (λ d. keeps d × Unit) → Reads s last i may result stop view print keeps
  whole reads = record {
    sound = λ small room y e.
        let one = reads.sound small room y e in
        record { laid = one.laid; ends = one.ends; kept = one.kept.0 };
    complete = λ room d j k laid m. reads.complete room d j (k, tt) laid m;
  }

  -- the same, said otherwise
  pub said : {Y D F : Type 0} {result : Result Y F} {stop : Y → ℕ} {view : Y → D} {print print' : D → List ℕ} {keeps keeps' : D → Type 0} →
      ((d : D) → keeps d → print d ≡ print' d) → ((d : D) → keeps d → keeps' d) → ((d : D) → keeps' d → keeps d) →
      Reads s last i may result stop view print keeps → Reads s last i may result stop view print' keeps'
  said {stop} {view} {print} {print'} {keeps} {keeps'} same to from reads = record {
    sound = λ small room y e.
        let one = reads.sound small room y e in
        record { laid = subst (λ bs. Laid s i (stop y) bs) (same (view y) one.kept) one.laid; ends = one.ends; kept = to (view y) one.kept };
    complete = λ room d j k laid m.
        reads.complete room d j (from d k) (subst (λ bs. Laid s i j bs) (sym (same d (from d k))) laid) m;
  }

  -- a result that is the same where the sheet is long enough
  pub windowed : {Y D F : Type 0} {result result' : Result Y F} {stop : Y → ℕ} {view : Y → D} {print : D → List ℕ} {keeps : D → Type 0} →
      (last ≤ length s → result ≡ result') → Reads s last i may result stop view print keeps → Reads s last i may result' stop view print keeps
  windowed same reads = record {
    sound = λ small room y e. reads.sound small room y (same room.inside ∙ e);
    complete = λ room d j k laid m.
        let one = reads.complete room d j k laid m in
        record { value = one.value; is = sym (same room.inside) ∙ one.is; stops = one.stops; shows = one.shows };
  }

  -- a fault of a layer, handed on as another
  pub layered : {Y D F G : Type 0} {result : Result Y F} {stop : Y → ℕ} {view : Y → D} {print : D → List ℕ} {keeps : D → Type 0}
      (as-fault : F → G) → Reads s last i may result stop view print keeps →
      Reads s last i may (faulted as-fault result) stop view print keeps
  layered {result} as-fault reads = record {
    sound = λ small room y e. reads.sound small room y (was_ok as-fault result y e);
    complete = λ room d j k laid m.
        let one = reads.complete room d j k laid m in
        record { value = one.value; is = ap (faulted as-fault) one.is; stops = one.stops; shows = one.shows };
  }

-- a part, after which no byte is left
pub closing : {s : List ℕ} {last i : ℕ} {X E Y D F : Type 0} {got : Result X F} {mid : X → ℕ} {viewX : X → E} {printX : E → List ℕ} {keepsX : E → Type 0}
    {next : X → Result Y F} {stop : Y → ℕ} {view : Y → D} {keeps known : D → Type 0} (fault : X → F)
    (part : D → E) → ((d : D) → keeps d → known d → keepsX (part d)) →
    Reads s last i (UpTo last) got mid viewX printX keepsX →
    ((x : X) → got ≡ Ok x → keepsX (viewX x) → Room s last (mid x) → mid x ≡ last →
    Reads s last (mid x) (Just last) (next x) stop view (λ _. []) (λ d. keeps d × (known d × (part d ≡ viewX x)))) →
    Reads s last i (Just last) (then got (λ x. cond (ltb (mid x) last) (Err (fault x)) (next x))) stop view (λ d. printX (part d)) (λ d. keeps d × known d)
closing {s} {last} {mid} {printX} fault part holds first others =
    said (λ d _. append-nil (printX (part d))) (λ d h. h) (λ d h. h)
    (field part holds (λ n h. omega arith) first
    (λ x is kept on. guard_not (ltb (mid x) last) (fault x)
    (λ d j k laid m. le-ltb (mid x) last (omega (arith, laid.size)))
    (λ no_more. others x is kept on (omega (arith, ltb-false (mid x) last no_more, on.left)))))

-- a list of bytes is read from its start to its end
pub room_all : (s : List ℕ) → Room s (length s) 0
room_all s = record { inside = omega arith; left = omega arith }
