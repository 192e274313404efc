-- REQUEST 12, SPEC 13.12: calls for different members, in any order. Assumes nothing.
use Rattle.std.specs.Prelude.{◌≡◌, ◌≢◌, true, List, ℕ}
use Rattle.theory.specs.Machine.{Swappable}
use Rattle.demands.specs.Calls.{Call, command, step, names}

-- In any sequence of calls on any card, p, then x and y, then t, where x and y name different members: x and y can
-- change places. Each keeps its own reply, all other replies are the same one by one, and so is the card at the end,
-- byte for byte. Replies of any length, refused calls included. Example: ../proofs/CommutationExample.antt
abbrev pub Commutation : Type 0
Commutation =
    (c : List ℕ) (m k : ℕ) → m ≢ k → (x y : Call) → names m x ≡ true → names k y ≡ true
    → (p t : List Call) → Swappable step c p x y t

-- the same of commands alone: q in a buffer of i bytes, and r in one of j
abbrev pub CommandsCommute : Type 0
CommandsCommute =
    (c : List ℕ) (m k : ℕ) → m ≢ k → (q : List ℕ) (i : ℕ) (r : List ℕ) (j : ℕ)
    → names m (command q i) ≡ true → names k (command r j) ≡ true
    → (p t : List Call) → Swappable step c p (command q i) (command r j) t
