-- Two calls that commute at every good state can change places in every run, and two masks make such calls. Over any machine.
-- Assumes nothing.
use mathlib.Core.Path.{◌≡◌, ap, sym, ◌∙◌}
use mathlib.Core.Bool.{Bool, true, false}
use mathlib.Core.List.{List, [], ◌∷◌}
use Rattle.theory.specs.Machine.{replies, run, swap_at, Swappable}
use Rattle.theory.proofs.Unwinding.{Masking, same-reply, same_rest}

-- from this state the two calls can come in either order
pub record Commute {State Call Reply : Type 0} (step : State → Call → State × Reply) (s : State) (x y : Call) : Type 0 where
  pub states : (step (step s y).0 x).0 ≡ (step (step s x).0 y).0
  pub first : (step (step s y).0 x).1 ≡ (step s x).1
  pub second : (step (step s x).0 y).1 ≡ (step s y).1

module _ {State Call Reply : Type 0} {step : State → Call → State × Reply} where
  pub commute-sym : (s : State) (x y : Call) → Commute step s x y → Commute step s y x
  commute-sym s x y h = record { states = sym h.states; first = h.second; second = h.first }

  -- in a run they change places
  pub swappable : {Good : State → Type 0} → ((s : State) (c : Call) → Good s → Good (step s c).0)
      → (x y : Call) → ((s : State) → Good s → Commute step s x y)
      → (t p : List Call) (s : State) → Good s → Swappable step s p x y t
  unfolding replies run swap_at
  swappable stays x y h t [] s g =
      let e = h s g in
      record {
        same_replies = rw (e.first, e.second, e.states);
        same_end = ap (λ u. run step u t) e.states;
      }
  swappable stays x y h t (c ∷ p) s g =
      let e = swappable stays x y h t p (step s c).0 (stays s c g) in
      record { same_replies = ap ((step s c).1 ∷◌) e.same_replies; same_end = e.same_end }

  -- ---- by masks ----

  module _ {Good : State → Type 0} {hidden : Call → Bool} {wipes : Call → Reply → Type 0} {mask : State → State}
      (M : Masking step hidden wipes Good mask) (s : State) (x y : Call) (g : Good s) (hx : hidden x ≡ true) (hy : hidden y ≡ false) where
    -- after a hidden call any other replies as it would before it, and leaves the rest so
    pub after-hidden : (step (step s x).0 y).1 ≡ (step s y).1
    after-hidden = same-reply M (step s x).0 s y hy (M.stays s x g) g (M.hides s x g hx)

    rest-after : mask (step (step s y).0 x).0 ≡ mask (step (step s x).0 y).0
    rest-after =
        M.hides (step s y).0 x (M.stays s y g) hx
        ∙ sym (same_rest M (step s x).0 s y hy (M.stays s x g) g (M.hides s x g hx))

  -- two masks that together determine the state: a call that the one hides and the other does not, and one the other way about
  module _ {Good : State → Type 0} {hidden₁ hidden₂ : Call → Bool} {wipes₁ wipes₂ : Call → Reply → Type 0}
      {mask₁ mask₂ : State → State} (M₁ : Masking step hidden₁ wipes₁ Good mask₁) (M₂ : Masking step hidden₂ wipes₂ Good mask₂)
      (determined : (a b : State) → Good a → Good b → mask₁ a ≡ mask₁ b → mask₂ a ≡ mask₂ b → a ≡ b) where
    pub commute-by-masks : (s : State) (x y : Call) → Good s → hidden₁ x ≡ true → hidden₂ x ≡ false
        → hidden₁ y ≡ false → hidden₂ y ≡ true → Commute step s x y
    commute-by-masks s x y g x₁ x₂ y₁ y₂ =
        let good : (a b : Call) → Good (step (step s a).0 b).0 = λ a b. M₁.stays _ b (M₁.stays s a g) in
        record {
          states = determined _ _ (good y x) (good x y) (rest-after M₁ s x y g x₁ y₁) (sym (rest-after M₂ s y x g y₂ x₂));
          first = after-hidden M₂ s y x g y₂ x₂;
          second = after-hidden M₁ s x y g x₁ y₁;
        }
