-- n is the number of the characters so far.
use Rattle.std.proofs.Common.{◌≡◌, ◌≤◌, drop}
use Rattle.salvage_file.specs.Number.{number_from, number_of}
use Rattle.salvage_file.proofs.input.number.Given as goal

abbrev pub invariant-loop-c : goal.invariant-loop-c
invariant-loop-c l = (l.n ≤ 999) × (number_of l.text ≡ number_from l.n (drop l.c-index l.text))
