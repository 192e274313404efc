-- What stands at a position of a list: a part, whose value starts at start, one that runs past the end, or the end.
use Rattle.std.specs.Prelude.{ℕ}

pub data Step : Type 0 where
  -- its type, its flags, its selector, and the start and the length of its value
  Part : ℕ → ℕ → ℕ → ℕ → ℕ → Step
  Cut : Step
  End : Step
