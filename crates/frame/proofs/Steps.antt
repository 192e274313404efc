-- What the returns of the code need, beside the laws of the ladder. Assumes nothing.
use Rattle.std.specs.Prelude.{Result, Ok, Err}
use Rattle.protocol.specs.declared.Refusal.{Refusal}
use mathlib.Core.Path.{◌≡◌, refl, ap, sym, ◌∙◌}
use mathlib.Core.Bool.{Bool, true, false, not}
use mathlib.Core.List.{List, [], ◌∷◌}
use Prim.Native.Nat.{ℕ, zero, suc, ◌+◌, ◌*◌, ◌-◌, ◌^◌, ◌≤◌}
use native.Mathlib.Nat.{le_antisymm}
use native.Mathlib.Omega.{arith}
use borrow.Author.Tests.{not-false, eq-eqb, ne_eqb}
use lib.Dec.{ltb, eqb}
use Rattle.std.specs.List.{list_all}
use lib.ListN.{length, take, drop}
use Rattle.theory.specs.Logic.{when◌then◌else◌, unless◌answer◌then◌}
use Rattle.theory.proofs.Tests.{by_cases, both, either, inside, within_low, within-high, tests}
use Rattle.theory.proofs.Ladder.{pass, stop, and_right, said-true, said-false}
use Rattle.theory.proofs.Lent.{tail-is}
use Rattle.wire.proofs.Le.{le_split}
use Rattle.wire.specs.Le.{le, number}
use Rattle.protocol.specs.declared.Refusal.TheVariants.{BadField}
use Rattle.protocol.specs.declared.ObjectKind.TheVariants.{Set}
use Rattle.protocol.specs.declared.Metadata.TheVariants.{HeaderList}
use Rattle.protocol.specs.Opcodes.{opcode_rows, supported, supported_only, fixed_size, names_member}
use Rattle.protocol.proofs.Rows.{supported-is, data-long}
use Rattle.frame.specs.declared.Ask.{Ask}
use Rattle.frame.specs.declared.Ask.TheVariants.{UseList}
use Rattle.frame.specs.Frame.{data_at, longest, opcode_of, group_of, target_of, data_of}
use Rattle.frame.specs.Fields.{kind_in, metadata_is, mode_in, use_in, fields_of}
use Rattle.frame.specs.Ask.{usable, framed_of, ask_of}

-- a byte other than those before
pub kind-set : (b : ℕ) → (b ≡ 0 → ⊥) → Set ≡ kind_in b
kind-set zero n = absurd (n refl)
kind-set (suc b) n = refl

pub metadata-list : (b : ℕ) → (b ≡ 0 → ⊥) → (b ≡ 1 → ⊥) → HeaderList ≡ metadata_is b
metadata-list zero n o = absurd (n refl)
metadata-list (suc zero) n o = absurd (o refl)
metadata-list (suc (suc b)) n o = refl

-- no bit is set: each byte is 0
pub zero_all : (d : List ℕ) → list_all (λ b. eqb b 0) d ≡ eqb (le d) 0
unfolding le
zero_all [] = refl
zero_all (b ∷ d) =
    by_cases (eqb b 0)
    (λ e. by_cases (eqb (le d) 0) (λ f. rw (zero_all d, e, f) (sym (eq-eqb (b + 256 * le d) 0 (omega tests))))
    (λ f. rw (zero_all d, e, f) (sym (ne_eqb (b + 256 * le d) 0 (λ z. omega tests)))))
    (λ e. rw e (sym (ne_eqb (b + 256 * le d) 0 (λ z. omega tests))))

-- the long mask: a bit after the first word is not supported, and without one the word is the mask
module _ (d : List ℕ) (t : Bool) (tail : t ≡ eqb (le (take (length d - 8) (drop 8 d))) 0) where
  e : t ≡ eqb (le (drop 8 d)) 0
  e = tail ∙ ap (λ x. eqb (le x) 0) (tail-is 8 d)

  pub mask-long : not t ≡ true → Err BadField ≡ use_in d
  unfolding use_in supported_only
  mask-long h =
      let n : eqb (le (drop 8 d)) 0 ≡ false = said-false _ t e h in
      let over : ltb (le d) (2 ^ 18) ≡ false = omega (tests, le_split 8 d) in
      stop _ _ _ _ (and_right _ _ over) refl

  pub mask-read : (mask : ℕ) (x : Result Ask Refusal) → not t ≡ false → mask ≡ number 0 8 d
      → x ≡ unless supported_only mask answer Err BadField then Ok (UseList mask) → x ≡ use_in d
  unfolding use_in
  mask-read mask x h r k =
      let z : eqb (le (drop 8 d)) 0 ≡ true = said-true _ t e h in
      let m : le d ≡ mask = omega (tests, le_split 8 d) in
      rw m k

-- step 7, at an opcode that was found
pub at-opcode : (ids m op o : ℕ) (d : List ℕ) (x : Result Ask Refusal) → op ≡ o → x ≡ fields_of ids m o d → x ≡ fields_of ids m op d
at-opcode ids m op o d x e h = rw e h

-- and at the last one, which none of the others is
pub names-one : (op : ℕ) → supported op ≡ true → (op ≡ 0x00 → ⊥) → (op ≡ 0x01 → ⊥) → names_member op ≡ true
names-one op s n0 n1 = either (ltb op 2) _ (sym (supported-is op) ∙ s) (λ e. absurd (omega tests)) (λ e. e)

past : (op k : ℕ) → k ≤ op → (op ≡ k → ⊥) → suc k ≤ op
past op k h n = omega arith

module _ (op : ℕ) (s : supported op ≡ true) (n0 : op ≡ 0x00 → ⊥) (n1 : op ≡ 0x01 → ⊥) (na : op ≡ 0x0a → ⊥)
    (nb : op ≡ 0x0b → ⊥) (nc : op ≡ 0x0c → ⊥) (nd : op ≡ 0x0d → ⊥) (ne : op ≡ 0x0e → ⊥) (nf : op ≡ 0x0f → ⊥)
    (ng : op ≡ 0x10 → ⊥) where
  is_last : op ≡ 0x11
  unfolding names_member
  is_last =
      let n = names-one op s n0 n1 in
      le_antisymm (within-high _ _ _ n)
      (past _ _ (past _ _ (past _ _ (past _ _ (past _ _ (past _ _ (past _ _ (within_low _ _ _ n) na) nb) nc) nd) ne) nf) ng)

  pub last-long : (n : ℕ) → fixed_size op ≤ n → 1 ≤ n
  unfolding opcode_rows
  last-long n f = data-long op 0x11 n 1 f is_last tt

  pub at-last-opcode : (ids m : ℕ) (d : List ℕ) (x : Result Ask Refusal) → x ≡ mode_in m d → x ≡ fields_of ids m op d
  unfolding fields_of when◌then◌else◌
  at-last-opcode ids m d x h = rw is_last h

pub usable-supported : (used op : ℕ) (b : Bool) → b ≡ usable used op → not b ≡ false → supported op ≡ true
unfolding usable
usable-supported used op b e h = (both _ _ (sym e ∙ not-false b h)).0

-- the numbers that were read, and the data
pub framed_is : (members ids used g op m : ℕ) (marked : Bool) (r : List ℕ) (x : Result Ask Refusal) → data_at ≤ length r → length r ≤ longest
    → g ≡ group_of r → op ≡ opcode_of r → m ≡ target_of r
    → x ≡ framed_of members ids used marked g op m (take (length r - data_at) (data_of r)) → x ≡ ask_of members ids used marked r
unfolding ask_of
framed_is members ids used g op m marked r x a b eg eo em h =
    pass _ _ _ x (inside data_at longest (length r) a b) (h ∙ rw (eg, eo, em, tail-is data_at r))
