-- The hypotheses of the unwinding theorem and of commutation can be met: a machine with two cells and a lock, and runs of it
-- that do differ. Assumes nothing.
use mathlib.Core.Path.{◌≡◌, refl, ap}
use mathlib.Core.Bool.{Bool, true, false}
use mathlib.Core.List.{List, [], ◌∷◌, ◌++◌}
use Prim.Native.Nat.{ℕ, ◌≤◌}
use native.Mathlib.Omega.{arith}
use lib.Dec.{eqb}
use lib.ListN.{length}
use Rattle.theory.specs.Logic.{when◌then◌else◌}
use Rattle.theory.specs.Machine.{replied, exposed, trace, run, seen, visible, Swappable}
use Rattle.theory.proofs.Tests.{if-cases, by_cases}
use Rattle.theory.proofs.Unwinding.{Masking, isolated-by-mask}
use Rattle.theory.proofs.Commuting.{swappable, commute-by-masks}

record Cells : Type 0 where
  left : ℕ
  right : ℕ
  locked : ℕ

abbrev cells : ℕ → ℕ → ℕ → Cells
cells l r k = record { left = l; right = r; locked = k }

data Call : Type 0 where
  store_left : ℕ → Call
  store_right : ℕ → Call
  lock : Call
  reset_left : Call

-- a store replies what the cell held; a reset clears the left cell and replies 0, or is refused with 1 where the lock is set
step : Cells → Call → Cells × ℕ
step s (store_left n) = (cells n s.right s.locked, s.left)
step s (store_right n) = (cells s.left n s.locked, s.right)
step s lock = (cells s.left s.right 1, 0)
step s reset_left = when eqb s.locked 0 then (cells 0 s.right s.locked, 0) else (s, 1)

Good : Cells → Type 0
Good s = s.locked ≤ 1

stays : (s : Cells) (c : Call) → Good s → Good (step s c).0
unfolding step Good
stays s (store_left n) g = g
stays s (store_right n) g = g
stays s lock g = omega arith
stays s reset_left g = if-cases (λ (y : Cells × ℕ). y.0.locked ≤ 1) _ _ _ (λ e. g) (λ e. g)

-- ---- the left cell hidden ----

names_left : Call → Bool
names_left (store_left n) = true
names_left (store_right n) = false
names_left lock = false
names_left reset_left = false

-- a reset that is not refused
data Wipes : Call → ℕ → Type 0 where
  reset : Wipes reset_left 0

clear_left : Cells → Cells
clear_left s = cells 0 s.right s.locked

hides-left : (s : Cells) (c : Call) → names_left c ≡ true → clear_left (step s c).0 ≡ clear_left s
unfolding step names_left clear_left
hides-left s (store_left n) h = refl
hides-left s (store_right n) h = cc
hides-left s lock h = cc
hides-left s reset_left h = cc

answers-left : (s : Cells) (c : Call) → names_left c ≡ false
    → ((step (clear_left s) c).1 ≡ (step s c).1) × (clear_left (step (clear_left s) c).0 ≡ clear_left (step s c).0)
unfolding step names_left clear_left when◌then◌else◌
answers-left s (store_left n) h = (cc, refl)
answers-left s (store_right n) h = (refl, refl)
answers-left s lock h = (refl, refl)
answers-left s reset_left h = by_cases (eqb s.locked 0) (λ e. rw e (refl, refl)) (λ e. rw e (refl, refl))

shown : (c : Call) (x : ℕ) → Wipes c x → names_left c ≡ false
unfolding names_left
shown _ _ reset = refl

wiped : (s : Cells) (c : Call) (x : ℕ) → Wipes c x → x ≡ (step s c).1 → step (clear_left s) c ≡ step s c
unfolding step clear_left when◌then◌else◌
wiped s _ _ reset e =
    by_cases (eqb s.locked 0) (λ q. rw q) (λ q. let z : ◌≡◌ {A = ℕ} 0 1 = rw q at e in absurd (omega arith))

left-masking : Masking step names_left Wipes Good clear_left
left-masking = record {
  stays = stays;
  hides = λ s c g. hides-left s c;
  answers = λ s c g. answers-left s c;
  shown = shown;
  wiped = λ s c g w. wiped s c _ w refl;
}

-- ---- two runs, and what is seen of them ----

run_a : List Call
run_a = store_left 5 ∷ store_right 7 ∷ []

run_b : List Call
run_b = store_right 7 ∷ store_left 6 ∷ store_left 8 ∷ []

-- the runs leave other states: the calls that name the left cell do change it
ends-differ : run step (cells 1 2 0) run_a ≡ run step (cells 4 2 0) run_b → ⊥
unfolding run step run_a run_b
ends-differ e = let z : ◌≡◌ {A = ℕ} 5 8 = ap (λ s. s.left) e in omega arith

-- with a reset after each, and whatever calls after that, the observer sees the same
sees-the-same : (t : List Call)
    → seen names_left (length run_a) (trace step (cells 1 2 0) (run_a ++ reset_left ∷ t))
    ≡ seen names_left (length run_b) (trace step (cells 4 2 0) (run_b ++ reset_left ∷ t))
unfolding Good clear_left visible run step when◌then◌else◌ names_left run_a run_b
sees-the-same =
    isolated-by-mask left-masking (cells 1 2 0) (cells 4 2 0) (omega arith) (omega arith) refl run_a run_b refl reset_left reset

-- and it does see: the visible reply, and after the reset everything
sees-something : seen names_left (length run_a) (trace step (cells 1 2 0) (run_a ++ reset_left ∷ []))
    ≡ replied (store_right 7) 2 ∷ exposed reset_left 0 (cells 0 7 0) ∷ []
unfolding seen trace step when◌then◌else◌ names_left run_a
sees-something = refl

-- ---- the right cell hidden, and two calls that change places ----

names_right : Call → Bool
names_right (store_left n) = false
names_right (store_right n) = true
names_right lock = false
names_right reset_left = false

clear_right : Cells → Cells
clear_right s = cells s.left 0 s.locked

hides-right : (s : Cells) (c : Call) → names_right c ≡ true → clear_right (step s c).0 ≡ clear_right s
unfolding step names_right clear_right
hides-right s (store_left n) h = cc
hides-right s (store_right n) h = refl
hides-right s lock h = cc
hides-right s reset_left h = cc

answers-right : (s : Cells) (c : Call) → names_right c ≡ false
    → ((step (clear_right s) c).1 ≡ (step s c).1) × (clear_right (step (clear_right s) c).0 ≡ clear_right (step s c).0)
unfolding step names_right clear_right when◌then◌else◌
answers-right s (store_left n) h = (refl, refl)
answers-right s (store_right n) h = (cc, refl)
answers-right s lock h = (refl, refl)
answers-right s reset_left h = by_cases (eqb s.locked 0) (λ e. rw e (refl, refl)) (λ e. rw e (refl, refl))

-- no call clears the right cell
right-masking : Masking step names_right (λ c x. ⊥) Good clear_right
right-masking = record {
  stays = stays;
  hides = λ s c g. hides-right s c;
  answers = λ s c g. answers-right s c;
  shown = λ c x w. absurd w;
  wiped = λ s c g w. absurd w;
}

determined : (a b : Cells) → clear_left a ≡ clear_left b → clear_right a ≡ clear_right b → a ≡ b
unfolding clear_left clear_right
determined a b e f =
    let l : a.left ≡ b.left = ap (λ s. s.left) f in
    let r : a.right ≡ b.right = ap (λ s. s.right) e in
    let k : a.locked ≡ b.locked = ap (λ s. s.locked) e in
    rw (l, r, k) (refl {a = cells b.left b.right b.locked})

change-places : (l r : ℕ) (s : Cells) → Good s → (p t : List Call) → Swappable step s p (store_left l) (store_right r) t
unfolding names_left names_right
change-places l r s g p t =
    swappable stays (store_left l) (store_right r)
    (λ u h. commute-by-masks left-masking right-masking (λ a b x y. determined a b) u _ _ h refl refl refl refl) t p s g
