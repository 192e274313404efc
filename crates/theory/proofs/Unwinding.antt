-- The unwinding theorem, over any machine: from laws of one step, what an observer sees of two whole runs is equal. Whether a
-- call wipes the hidden part goes by the call and its reply, since a wipe can be refused. Assumes nothing.
use mathlib.Core.Path.{◌≡◌, refl, ap, ap₂, sym, ◌∙◌}
use mathlib.Core.Bool.{Bool, true, false}
use mathlib.Core.List.{List, [], ◌∷◌, ◌++◌}
use lib.ListN.{length}
use Rattle.theory.specs.Logic.{when◌then◌else◌}
use Rattle.theory.specs.Machine.{replied, trace, run, seen, visible}
use Rattle.theory.proofs.Tests.{by_cases}

-- `mask s` is s with the hidden part blanked, and `Good` an invariant. Each law speaks of one state and one call
pub record Masking {State Call Reply : Type 0} (step : State → Call → State × Reply)
    (hidden : Call → Bool) (wipes : Call → Reply → Type 0) (Good : State → Type 0) (mask : State → State) : Type 0 where
  -- the invariant stays
  pub stays : (s : State) (c : Call) → Good s → Good (step s c).0
  -- a hidden call changes the hidden part alone
  pub hides : (s : State) (c : Call) → Good s → hidden c ≡ true → mask (step s c).0 ≡ mask s
  -- any other call replies from the rest alone, and makes the rest from the rest alone
  pub answers : (s : State) (c : Call) → Good s → hidden c ≡ false
      → ((step (mask s) c).1 ≡ (step s c).1) × (mask (step (mask s) c).0 ≡ mask (step s c).0)
  -- no hidden call wipes
  pub shown : (c : Call) (x : Reply) → wipes c x → hidden c ≡ false
  -- a wipe does to the state what it does to the masked state: nothing of the hidden part is left
  pub wiped : (s : State) (c : Call) → Good s → wipes c (step s c).1 → step (mask s) c ≡ step s c

-- states that differ in the hidden part at most
record Alike {State : Type 0} (Good : State → Type 0) (mask : State → State) (a b : State) : Type 0 where
  left : Good a
  right : Good b
  same-mask : mask a ≡ mask b

module _ {State Call Reply : Type 0} {step : State → Call → State × Reply} {hidden : Call → Bool}
    {wipes : Call → Reply → Type 0} {Good : State → Type 0} {mask : State → State} (M : Masking step hidden wipes Good mask) where
  -- ---- one call on states that are alike ----

  hidden-call : (a b : State) (c : Call) → hidden c ≡ true → Alike Good mask a b → Alike Good mask (step a c).0 b
  hidden-call a b c e h = record {
    left = M.stays a c h.left;
    right = h.right;
    same-mask = M.hides a c h.left e ∙ h.same-mask;
  }

  pub same-reply : (a b : State) (c : Call) → hidden c ≡ false → Good a → Good b → mask a ≡ mask b → (step a c).1 ≡ (step b c).1
  same-reply a b c e ga gb m = sym (M.answers a c ga e).0 ∙ ap (λ s. (step s c).1) m ∙ (M.answers b c gb e).0

  pub same_rest : (a b : State) (c : Call) → hidden c ≡ false → Good a → Good b → mask a ≡ mask b
      → mask (step a c).0 ≡ mask (step b c).0
  same_rest a b c e ga gb m = sym (M.answers a c ga e).1 ∙ ap (λ s. mask (step s c).0) m ∙ (M.answers b c gb e).1

  visible-call : (a b : State) (c : Call) → hidden c ≡ false → Alike Good mask a b → Alike Good mask (step a c).0 (step b c).0
  visible-call a b c e h = record {
    left = M.stays a c h.left;
    right = M.stays b c h.right;
    same-mask = same_rest a b c e h.left h.right h.same-mask;
  }

  alike-reply : (a b : State) (c : Call) → hidden c ≡ false → Alike Good mask a b → (step a c).1 ≡ (step b c).1
  alike-reply a b c e h = same-reply a b c e h.left h.right h.same-mask

  -- what wipes the one wipes the other, and leaves the same
  wipes-too : (a b : State) (c : Call) → wipes c (step a c).1 → Alike Good mask a b → wipes c (step b c).1
  wipes-too a b c w h = rw (← alike-reply a b c (M.shown c _ w) h) w

  wiped-call : (a b : State) (c : Call) → wipes c (step a c).1 → Alike Good mask a b → step a c ≡ step b c
  wiped-call a b c w h =
      sym (M.wiped a c h.left w) ∙ ap (λ s. step s c) h.same-mask ∙ M.wiped b c h.right (wipes-too a b c w h)

  -- ---- a run against the run of its visible calls alone ----

  ends-alike : (p : List Call) (a b : State) → Alike Good mask a b → Alike Good mask (run step a p) (run step b (visible hidden p))
  unfolding run visible when◌then◌else◌
  ends-alike [] a b h = h
  ends-alike (c ∷ p) a b h =
      by_cases (hidden c)
      (λ e. rw e (ends-alike p (step a c).0 b (hidden-call a b c e h)))
      (λ e. rw e (ends-alike p (step a c).0 (step b c).0 (visible-call a b c e h)))

  -- up to a wipe and beyond
  looks-visible : (r : Call) (t p : List Call) (a b : State) → Alike Good mask a b → wipes r (step (run step a p) r).1
      → seen hidden (length p) (trace step a (p ++ r ∷ t))
      ≡ seen hidden (length (visible hidden p)) (trace step b (visible hidden p ++ r ∷ t))
  unfolding run trace seen visible when◌then◌else◌
  looks-visible r t [] a b h w = rw (wiped-call a b r w h)
  looks-visible r t (c ∷ p) a b h w =
      by_cases (hidden c)
      (λ e. rw e (looks-visible r t p (step a c).0 b (hidden-call a b c e h) w))
      (λ e. rw (e, e) (ap₂ (λ x xs. replied c x ∷ xs) (alike-reply a b c e h)
      (looks-visible r t p (step a c).0 (step b c).0 (visible-call a b c e h) w)))

  -- ISOLATION: two good states that differ in the hidden part at most, two runs with the same visible calls, and after each the
  -- same wipe and the same further calls: the observer sees the same. That the call wipes is asked of the first run alone
  pub isolated-by-mask : (a b : State) → Good a → Good b → mask a ≡ mask b
      → (p q : List Call) → visible hidden p ≡ visible hidden q
      → (r : Call) → wipes r (step (run step a p) r).1 → (t : List Call)
      → seen hidden (length p) (trace step a (p ++ r ∷ t)) ≡ seen hidden (length q) (trace step b (q ++ r ∷ t))
  isolated-by-mask a b ga gb m p q e r w t =
      let h : Alike Good mask a b = record { left = ga; right = gb; same-mask = m } in
      let i : Alike Good mask b b = record { left = gb; right = gb; same-mask = refl } in
      let u = ends-alike p a b h in
      let v = ends-alike q b b i in
      let n : mask (run step a p) ≡ mask (run step b q) = u.same-mask ∙ rw e (sym v.same-mask) in
      let k = wipes-too (run step a p) (run step b q) r w (record { left = u.left; right = v.left; same-mask = n }) in
      looks-visible r t p a b h w ∙ rw e (sym (looks-visible r t q b b i k))
