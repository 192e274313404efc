-- The wrong programs fail the worked examples: what the table expects contradicts what each kind of machine replies.
-- Assumes nothing.
use mathlib.Core.Path.{◌≡◌, refl, ap, sym, ◌∙◌}
use mathlib.Core.Bool.{true, false}
use Prim.Native.Nat.{ℕ}
use native.Mathlib.Omega.{arith}
use lib.ListN.{get_or}
use Rattle.theory.proofs.Tests.{never}
use Rattle.demands.specs.Calls.{Call, Reply, answered, refused}
use Rattle.demands.specs.Examples.{create, replies_to, size_of}
use Rattle.demands.specs.WrongPrograms.{example_b, Passes, Rejected, WrongProgramsRejected}
use Rattle.demands.proofs.Model.{model}

-- a success is no refusal
pub obeyed : {x y : Reply} → refused x ≡ true → x ≡ y → refused y ≡ false → ⊥
obeyed h e n = never cc

module _ {State : Type 0} (machine : State → Call → State × Reply) (start : State) where
  -- the reply to call j of example k
  pub reply : (k j : ℕ) → Passes machine start k
      → get_or (replies_to machine start (example_b k)) j (answered 0) ≡ get_or (example_b k).expected j (answered 0)
  reply k j p = ap (λ l. get_or l j (answered 0)) p

  rejected : Rejected machine start
  unfolding model
  rejected = record {
    refuses_each = λ h. (λ p. obeyed (h _ _ _) (reply 1 0 p) refl, λ p. obeyed (h _ _ _) (reply 7 0 p) refl);
    fixed_reply = λ x h p q.
        let e : ◌≡◌ {A = ℕ} 16 8 = ap size_of (sym (reply 1 0 p) ∙ h _ _ _ ∙ sym (h _ _ _) ∙ reply 2 0 q) in omega arith;
    never_changes = λ h p.
        obeyed refl (sym (reply 5 1 p) ∙ ap (λ s. (machine s (create 0 0)).1) (h _ _ _) ∙ reply 5 0 p) refl;
    first_only = λ h p. obeyed (h _ _ _ _ _) (reply 7 0 p) refl;
    made_up_count = λ h p. h _ (reply 9 0 p);
    made_up_size = λ h p. h _ (reply 9 1 p);
    made_up_bytes = λ h p. h _ _ (ap size_of (reply 10 2 p));
  }

pub wrong-programs-rejected : WrongProgramsRejected
wrong-programs-rejected State machine start = rejected machine start
