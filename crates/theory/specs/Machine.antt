-- A machine that takes calls one by one, a run of it, what an observer sees of the run, and when two neighbouring calls
-- can change places. Nothing here knows what the machine is. Assumes nothing.
use Rattle.std.specs.Prelude.{◌≡◌, Bool, List, [], ◌∷◌, ◌++◌, ℕ, zero, suc, length}
use Rattle.theory.specs.Logic.{when◌then◌else◌}

-- one call of a run, its reply, and the state that it left
pub record Event (State Call Reply : Type 0) : Type 0 where
  pub call : Call
  pub reply : Reply
  pub after : State

-- what an observer sees of one call: its reply alone, or its reply and the whole state after it
pub data Observation (State Call Reply : Type 0) : Type 0 where
  replied : Call → Reply → Observation State Call Reply
  exposed : Call → Reply → State → Observation State Call Reply

-- ---- a run: each call works on the state that the last one left ----

module _ {State Call Reply : Type 0} where
  unfoldable pub trace : (State → Call → State × Reply) → State → List Call → List (Event State Call Reply)
  trace step s [] = []
  trace step s (c ∷ cs) = record { call = c; reply = (step s c).1; after = (step s c).0 } ∷ trace step (step s c).0 cs

  -- the replies, one by one
  unfoldable pub replies : (State → Call → State × Reply) → State → List Call → List Reply
  replies step s [] = []
  replies step s (c ∷ cs) = (step s c).1 ∷ replies step (step s c).0 cs

  -- the state at the end
  unfoldable pub run : (State → Call → State × Reply) → State → List Call → State
  run step s [] = s
  run step s (c ∷ cs) = run step (step s c).0 cs

  -- of the first n calls the observer sees the replies of those that are not hidden; of every later call,
  -- hidden or not, the reply and the whole state
  unfoldable pub seen : (Call → Bool) → ℕ → List (Event State Call Reply) → List (Observation State Call Reply)
  seen hidden n [] = []
  seen hidden zero (e ∷ es) = exposed e.call e.reply e.after ∷ seen hidden zero es
  seen hidden (suc n) (e ∷ es) =
      when hidden e.call then seen hidden n es else
      replied e.call e.reply ∷ seen hidden n es

-- the calls with the hidden ones struck out
unfoldable pub visible : {Call : Type 0} → (Call → Bool) → List Call → List Call
visible hidden [] = []
visible hidden (c ∷ cs) = when hidden c then visible hidden cs else c ∷ visible hidden cs

-- ---- neighbours that change places ----

-- the list with the items at places n and n + 1 swapped
unfoldable pub swap_at : {A : Type 0} → ℕ → List A → List A
swap_at n [] = []
swap_at zero (a ∷ []) = a ∷ []
swap_at zero (a ∷ b ∷ l) = b ∷ a ∷ l
swap_at (suc n) (a ∷ l) = a ∷ swap_at n l

-- In a run of p, then x and y, then t, the two can change places: each keeps its own reply, all other replies are the
-- same one by one, and so is the state at the end
pub record Swappable {State Call Reply : Type 0} (step : State → Call → State × Reply) (s : State)
    (p : List Call) (x y : Call) (t : List Call) : Type 0 where
  pub same_replies : replies step s (p ++ y ∷ x ∷ t) ≡ swap_at (length p) (replies step s (p ++ x ∷ y ∷ t))
  pub same_end : run step s (p ++ y ∷ x ∷ t) ≡ run step s (p ++ x ∷ y ∷ t)
