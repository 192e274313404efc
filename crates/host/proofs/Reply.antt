-- Laws of a reply's length for the code that reads it. Assumes nothing.
use mathlib.Core.Path.{◌≡◌, refl, sym, ◌∙◌}
use mathlib.Core.Bool.{Bool, true, false, not}
use mathlib.Core.List.{List}
use Rattle.std.specs.Prelude.{None}
use Prim.Native.Nat.{ℕ, ◌+◌, ◌*◌, ◌≤◌, ◌<◌}
use native.Mathlib.Omega.{arith}
use borrow.Author.Tests.{ne_eqb, le-leb, not-true, not-false}
use lib.Dec.{eqb}
use lib.ListN.{length, drop}
use Rattle.theory.proofs.Ladder.{pass, stop, said-true}
use Rattle.wire.specs.Le.{number}
use Rattle.protocol.specs.Opcodes.{supported}
use Rattle.inventory.specs.Header.{header_size}
use Rattle.reply.specs.Reply.{head_size}
use Rattle.host.specs.declared.ResultForm.{ResultForm}
use Rattle.host.specs.Reply.{form_of, count_fits, result_fits, length_right, handled_status, handled_qualifier, answered, read_reply}

-- ---- a list by its count ----

module _ (x : List ℕ) where
  pub count-short : length x < 8 → false ≡ count_fits x
  unfolding count_fits
  count-short h = sym (ne_eqb (length x) (8 + header_size * number 0 4 x) (λ e. omega arith))

  pub count-fits : (n : ℕ) → n ≡ number 0 4 x → eqb (length x) (8 + header_size * n) ≡ count_fits x
  unfolding count_fits
  count-fits n e = rw e

-- what was told of the result, which is the part x of the reply
pub fits_told : (form : ResultForm) (r x : List ℕ) (b : Bool) → b ≡ result_fits form x → x ≡ drop head_size r → b ≡ result_fits form (drop head_size r)
fits_told form r x b e f = e ∙ rw f

-- ---- a reply of at least eight bytes ----

-- t says whether the opcode is supported, b whether the length is right
module _ (op what : ℕ) (r : List ℕ) (t b : Bool) (status : ℕ) (form : ResultForm)
    (e₁ : t ≡ supported op) (e₂ : not t ≡ false) (h : head_size ≤ length r)
    (e₃ : status ≡ number 0 2 r) (e₄ : form ≡ form_of op what) (e₅ : b ≡ length_right form status r) where
  right_is : length_right (form_of op what) (number 0 2 r) r ≡ b
  right_is = sym (e₅ ∙ rw (e₃, e₄))

  pub wrong-length : not b ≡ true → None ≡ read_reply op what r
  unfolding read_reply
  wrong-length n =
      pass _ _ _ _ (said-true _ t e₁ e₂) (pass _ _ _ _ (le-leb head_size (length r) h) (stop _ _ _ _ (right_is ∙ not-true b n) refl))

  pub all_read : (q s' q' : ℕ) → not b ≡ false → q ≡ number 2 2 r → s' ≡ handled_status status → q' ≡ handled_qualifier q
      → answered s' q' status q ≡ read_reply op what r
  unfolding read_reply
  all_read q s' q' n e₆ e₇ e₈ =
      pass _ _ _ _ (said-true _ t e₁ e₂)
      (pass _ _ _ _ (le-leb head_size (length r) h) (pass _ _ _ _ (right_is ∙ not-false b n) (rw (e₇, e₈, e₆, e₃))))
