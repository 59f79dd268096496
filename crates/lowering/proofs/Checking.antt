-- One member more is checked, and the numbers of the accessors.
use Rattle.std.proofs.Common.{◌≡◌, ℕ, ◌+◌, ◌<◌, ◌≤◌, Bool, cond, ◌&&◌, ◌||◌, leb, List, [], ◌∷◌, length, get_or, drop, Some, None, count_by, sym, ap, ◌∙◌, arith}
use Rattle.std.proofs.lemmas.List.Sums.{sum_by-cons}
use Rattle.std.proofs.lemmas.Bool.Decides.{nat_tests}
use Rattle.sheet.specs.Seen.{Seen}
use Rattle.rules.specs.declared.forming.Held.{Held}
use Rattle.rules.specs.Members.{built, accessor}
use Rattle.rules.specs.Refused.{out_of_order, first_out_of_order, first_unnumbered}
use Rattle.lowering.specs.Hands.{seen_held, seen_hand}
use Rattle.lowering.proofs.Turns.{at_drop_item}

-- h stands at i among hs, and is seen as m
module _ (hs : List Held) (i : ℕ) (h : Held) (m : Seen) (inside : i < length hs) (is : h ≡ get_or hs i h) (seen : m ≡ seen_held h) where
  at_drop_seen : {Y : Type 0} (F : List Seen → Y) → F (seen_hand (drop i hs)) ≡ F (m ∷ seen_hand (drop (i + 1) hs))
  at_drop_seen F = at_drop_item (λ xs. F (seen_hand xs)) hs i h inside is ∙ ap (λ x. F (x ∷ seen_hand (drop (i + 1) hs))) (sym seen)

  -- what is left from m on, by whether m is out of order
  pub order_more : (derived second b : Bool) → b ≡ out_of_order derived second m →
      first_out_of_order derived second i (seen_hand (drop i hs))
      ≡ cond b (Some i) (first_out_of_order derived (second || built m) (i + 1) (seen_hand (drop (i + 1) hs)))
  order_more derived second b out =
      at_drop_seen (first_out_of_order derived second i)
      ∙ ap (λ a. cond a (Some i) (first_out_of_order derived (second || built m) (i + 1) (seen_hand (drop (i + 1) hs)))) (sym out)

  -- by whether m is an accessor
  pub number_more : (n : ℕ) (b : Bool) → b ≡ accessor m →
      first_unnumbered n i (seen_hand (drop i hs))
      ≡ cond (b && leb 65535 n) (Some i) (first_unnumbered (cond b (n + 1) n) (i + 1) (seen_hand (drop (i + 1) hs)))
  number_more n b counts =
      at_drop_seen (first_unnumbered n i)
      ∙ ap (λ a. cond (a && leb 65535 n) (Some i) (first_unnumbered (cond a (n + 1) n) (i + 1) (seen_hand (drop (i + 1) hs)))) (sym counts)

  pub accessors_more : (b : Bool) → b ≡ accessor m →
      count_by accessor (seen_hand (drop i hs)) ≡ cond b 1 0 + count_by accessor (seen_hand (drop (i + 1) hs))
  accessors_more b counts =
      at_drop_seen (count_by accessor)
      ∙ (sum_by-cons (λ x. cond (accessor x) 1 0) m (seen_hand (drop (i + 1) hs))
      ∙ ap {B = ℕ} (λ a. cond a 1 0 + count_by accessor (seen_hand (drop (i + 1) hs))) (sym counts))

-- where each accessor gets a number, the last number given is at most 65,535
pub numbers_fit : (n i : ℕ) (ms : List Seen) → n ≤ 65535 → first_unnumbered n i ms ≡ None → n + count_by accessor ms ≤ 65535
numbers_fit n i [] small none = omega arith
numbers_fit n i (m ∷ ms) small none =
    let counted = sum_by-cons (λ x. cond (accessor x) 1 0) m ms in
    let raised = numbers_fit (n + 1) (i + 1) ms in
    let kept = numbers_fit n (i + 1) ms small in
    grind (arith, nat_tests)
