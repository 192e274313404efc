-- The rules that a list obeys which step 10 accepts. Assumes nothing.
use mathlib.Core.Path.{◌≡◌}
use mathlib.Core.Bool.{true, false, not}
use mathlib.Core.List.{List}
use Prim.Native.Nat.{ℕ}
use Rattle.std.specs.Prelude.{Result}
use borrow.Author.Tests.{not-true}
use Rattle.theory.proofs.Tests.{never, unless-passed}
use Rattle.parts.specs.List.{PartList, whole}
use Rattle.rules.specs.declared.Cause.{Cause}
use Rattle.rules.specs.Rules.{known_or_skipped, length_right, size_right, features_same, every, repeated, cause_in, is_accepted}

pub record Accepts (q : ℕ) (features : List ℕ) (ps : PartList) : Type 0 where
  pub sized : every (length_right q) ps ≡ true
  pub rings : every (size_right q) ps ≡ true
  pub valued : every (features_same features) ps ≡ true
  pub once : repeated q ps ≡ false

abbrev Passes : Result (Unit {0}) Cause → Type 0
Passes c = is_accepted c ≡ true

pub accepts : (q : ℕ) (features : List ℕ) (ps : PartList) → is_accepted (cause_in q features ps) ≡ true → Accepts q features ps
unfolding cause_in
accepts q features ps e =
    let a = unless-passed Passes (whole ps) _ _ never e in
    let b = unless-passed Passes (every (known_or_skipped q) ps) _ _ never a.1 in
    let c = unless-passed Passes (every (length_right q) ps) _ _ never b.1 in
    let d = unless-passed Passes (every (size_right q) ps) _ _ never c.1 in
    let f = unless-passed Passes (every (features_same features) ps) _ _ never d.1 in
    let g = unless-passed Passes (not (repeated q ps)) _ _ never f.1 in
    record { sized = c.0; rings = d.0; valued = f.0; once = not-true (repeated q ps) g.0 }
