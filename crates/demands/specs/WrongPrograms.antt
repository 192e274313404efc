-- THE WRONG PROGRAMS that must be rejected, SPEC 11.1, each as a kind of machine: whatever its states are and whatever else
-- it does, it fails the worked examples that are named there. Assumes nothing.
use Rattle.std.specs.Prelude.{◌≡◌, ◌≢◌, true, List, [], ℕ, ◌-◌, get_or}
use Rattle.demands.specs.Calls.{Call, command, Reply, refused}
use Rattle.demands.specs.Examples.{Example, example, worked_examples, replies_to, size_of, gives, a_number, metadata, get_selected}

-- example Bk
abbrev pub example_b : ℕ → Example
example_b k = get_or worked_examples (k - 1) (example [] [] [])

module _ {State : Type 0} (machine : State → Call → State × Reply) (start : State) where
  abbrev pub Passes : ℕ → Type 0
  Passes k = replies_to machine start (example_b k) ≡ (example_b k).expected

  pub record Rejected : Type 0 where
    -- it refuses all commands: B1, B7
    pub refuses_each : ((s : State) (r : List ℕ) (room : ℕ) → refused (machine s (command r room)).1 ≡ true)
        → (Passes 1 → ⊥) × (Passes 7 → ⊥)
    -- it always gives one and the same reply: B1 and B2 differ
    pub fixed_reply : (x : Reply) → ((s : State) (r : List ℕ) (room : ℕ) → (machine s (command r room)).1 ≡ x)
        → Passes 1 → Passes 2 → ⊥
    -- it leaves the card as it is: B5 catches every such machine, B7 this card without its changes, which is unchanging in
    -- ../proofs/WrongProgramsExample.antt
    pub never_changes : ((s : State) (r : List ℕ) (room : ℕ) → (machine s (command r room)).0 ≡ s) → Passes 5 → ⊥
    -- it carries out one command, the first: B7, which follows B5
    pub first_only : ((s : State) (q r : List ℕ) (i j : ℕ) → refused (machine (machine s (command q i)).0 (command r j)).1 ≡ true)
        → Passes 7 → ⊥
    -- it gives a wrong count of parts, a wrong size, or a wrong count of the bytes that it wrote: B9, B10
    pub made_up_count : ((s : State) → (machine s (metadata 0 1)).1 ≢ gives (a_number 9)) → Passes 9 → ⊥
    pub made_up_size : ((s : State) → (machine s (metadata 0 0)).1 ≢ gives (a_number 229)) → Passes 9 → ⊥
    pub made_up_bytes : ((s : State) (asked : List ℕ) → size_of (machine s (get_selected 0 asked)).1 ≢ 49) → Passes 10 → ⊥

abbrev pub WrongProgramsRejected : Type 1
WrongProgramsRejected = (State : Type 0) (machine : State → Call → State × Reply) (start : State) → Rejected machine start
