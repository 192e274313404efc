-- When a call is refused, and what it answers when it is not. Assumes nothing.
use mathlib.Core.Path.{◌≡◌, refl, ap, sym, ◌∙◌}
use mathlib.Core.Bool.{Bool, true, false}
use mathlib.Core.List.{List, [], ◌∷◌}
use Prim.Native.Nat.{ℕ, ◌≤◌, ◌<◌}
use native.Mathlib.Omega.{arith}
use borrow.Author.Tests.{leb-true}
use lib.Dec.{leb}
use lib.ListN.{length}
use Rattle.theory.specs.Logic.{unless◌answer◌then◌}
use Rattle.theory.specs.Bytes.{bytes_at, put}
use Rattle.theory.proofs.Tests.{unless-passed}
use Rattle.inventory.specs.Inventory.{parts_size, selector_of}
use Rattle.parts.specs.declared.ListForm.TheVariants.{Parts}
use Rattle.parts.specs.List.{parts_of, among}
use Rattle.rules.specs.Rules.{known, cause_of, is_accepted}
use Rattle.restore.proofs.PartValues.{value_there}
use Rattle.difference.specs.declared.Span.{Span}
use Rattle.std.specs.Prelude.{Option, Some, None, Ok, Err}
use Rattle.difference.specs.declared.Refusal.{Refusal}
use Rattle.difference.specs.declared.Refusal.TheVariants.{LacksPart, OutsideInventory}
use Rattle.difference.specs.Difference.{in_later, in_full, Verdict, number_of, span_of, on_span, place_in, is_full, verdict_of, code_of, lookup_of, lookup_told, made, merge_of}
use Rattle.difference.specs.Claims.{Pair}
use Rattle.difference.proofs.Places.{span_value}
use Rattle.difference.proofs.Handed.{verdict-refused, verdict-passed}
use Rattle.difference.proofs.Made.{pair-long}

-- ---- nothing is refused ----

abbrev NoRefusal : Verdict → Type 0
NoRefusal v = code_of v ≡ 0

pub record Passes (q : ℕ) (features full later : List ℕ) (asked room : Bool) : Type 0 where
  pub pair : Pair q features full later
  pub inside : asked ≡ true
  pub fits : room ≡ true

pub passes : (q : ℕ) (features full later : List ℕ) (asked room : Bool) → q < 5 → code_of (verdict_of q features full later asked room) ≡ 0
    → Passes q features full later asked room
unfolding verdict_of
passes q features full later asked room few e =
    let a = unless-passed NoRefusal (is_accepted (cause_of q features full)) _ _ (λ z. omega arith) e in
    let b = unless-passed NoRefusal (is_accepted (cause_of q features later)) _ _ (λ z. omega arith) a.1 in
    let c = unless-passed NoRefusal (is_full q full) _ _ (λ z. omega arith) b.1 in
    let d = unless-passed NoRefusal asked _ _ (λ z. omega arith) c.1 in
    let f = unless-passed NoRefusal room _ _ (λ z. omega arith) d.1 in
    record { pair = record { few = few; full_accepted = a.0; later_accepted = b.0; lacks_none = c.0 }; inside = d.0; fits = f.0 }

-- ---- a lookup in such a pair ----

module _ (q : ℕ) (features full later : List ℕ) (pair : Pair q features full later) (t s : ℕ) where
  pair-verdict : (asked : Bool) → known q t (selector_of t s) ≡ asked
      → verdict_of q features full later (known q t (selector_of t s)) true ≡ (unless asked answer Err OutsideInventory then Ok tt)
  unfolding verdict_of unless◌answer◌then◌
  pair-verdict asked e = rw (pair.full_accepted, pair.later_accepted, pair.lacks_none, e)

  pub found-there : known q t (selector_of t s) ≡ true → lookup_of q features full later t s ≡ place_in full later t (selector_of t s)
  unfolding lookup_of unless◌answer◌then◌
  found-there e = verdict-passed _ Err _ (ap code_of (pair-verdict true e))

  pub found-outside : known q t (selector_of t s) ≡ false → lookup_of q features full later t s ≡ Err OutsideInventory
  unfolding lookup_of unless◌answer◌then◌
  found-outside e =
      verdict-refused _ Err _ OutsideInventory (pair-verdict false e)

-- a part that the full capture has is found
pub place-done : (full later : List ℕ) (t s : ℕ) → among t s (parts_of Parts full) ≡ true → (lookup_told (place_in full later t s)).0 ≡ 0
unfolding place_in lookup_told
place-done full later t s h = cases (span_of t s later) (span_of t s full) refl
  where
    cases : (a b : Option Span) → span_of t s full ≡ b → (lookup_told (on_span a in_later (on_span b in_full (Err LacksPart)))).0 ≡ 0
    cases (Some w) b e = refl
    cases None (Some w) e = refl
    cases None None e =
        let none : (y : List ℕ) → _ ≡ y = λ y. span_value t s full y ∙ ap (λ w. on_span w (λ start len. bytes_at start len full) y) e in
        let clash : ◌≡◌ {A = List ℕ} [] (0 ∷ []) = sym (none []) ∙ value_there t s (parts_of Parts full) [] (0 ∷ []) h ∙ none (0 ∷ []) in
        let z : ◌≡◌ {A = ℕ} 0 1 = ap length clash in
        absurd (omega arith)

-- ---- the made list, return by return of merge ----

module _ (q : ℕ) (features full later out : List ℕ) (size : ℕ) (es : size ≡ parts_size q) (v : Verdict)
    (ev : v ≡ verdict_of q features full later true (leb size (length out))) where
  pub merge-refused : (e : Refusal) (n : ℕ) → v ≡ Err e → n ≡ number_of e → (n, (0, out)) ≡ merge_of q features full later out
  unfolding merge_of
  merge-refused e n h en =
      rw (← es, ← ev, en) (sym (verdict-refused v (λ w. (number_of w, (0, out))) _ e h))

  module _ (few : q < 5) (u : Unit {0}) (ok : v ≡ Ok u) where
    all-passes : Passes q features full later true (leb size (length out))
    all-passes = passes q features full later true (leb size (length out)) few (ap code_of (sym ev ∙ ok))

    pub merge-room : length (made q full later) ≤ length out
    merge-room =
        let p = all-passes in
        omega (arith, pair-long q features full later p.pair, leb-true size (length out) p.fits)

    pub merge-done : (out' : List ℕ) → out' ≡ put 0 (made q full later) out → (0, (size, out')) ≡ merge_of q features full later out
    unfolding merge_of
    merge-done out' e =
        rw (e, ← es, ← ev) (sym (verdict-passed v (λ w. (number_of w, (0, out))) _ (ap code_of ok)))
