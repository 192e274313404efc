-- The hypotheses of the claim on headers of parts can be met: a queue notify part with other flags, another reserved byte and other
-- bytes in the last six of its selector, given and asked for. Assumes nothing.
use mathlib.Core.Path.{◌≡◌, refl, sym}
use mathlib.Core.List.{List, [], ◌∷◌, ◌++◌}
use Prim.Native.Nat.{ℕ}
use lib.ListN.{take, replicate}
use Rattle.theory.specs.Machine.{run}
use Rattle.theory.proofs.Tests.{never}
use Rattle.card.specs.Layout.{member_in}
use Rattle.host.specs.declared.Command.TheVariants as host
use Rattle.host.specs.Request.{start_of}
use Rattle.admin.specs.Command.{respond}
use Rattle.demands.specs.Calls.{step}
use Rattle.demands.specs.Examples.{example_card, set_mode, objects_live}
use Rattle.demands.specs.PartHeaders.{named_bytes, SamePart, SameGiven, same_given, next_given, SameAsked, same_asked, next_asked}
use Rattle.demands.proofs.Model.{model}
use Rattle.demands.proofs.PartHeaders.{headers-not-read}

-- member 1 has get object 0 and set object 1 and is stopped
card : List ℕ
card = run step example_card (objects_live ++ set_mode 1 1 ∷ [])

-- the header of a queue notify part: two selector bytes are named, which is queue 0
abbrev notify : ℕ → ℕ → ℕ → ℕ → List ℕ
notify flags reserved selector size = 0x05 ∷ 0x01 ∷ flags ∷ reserved ∷ 0 ∷ 0 ∷ (replicate 6 selector ++ (size ∷ 0 ∷ 0 ∷ 0 ∷ []))

abbrev value : List ℕ
value = replicate 8 9

example : Unit {0}
unfolding model named_bytes card
example = tt

same-part : (f g r x n k : ℕ) → SamePart (notify f 0 0 n) (notify g r x k)
unfolding example
same-part f g r x n k = record { long = refl; also_long = refl; part_type = refl; selector = refl }

-- ---- given, with its value ----

given-alike : SameGiven (member_in card 1).queues (notify 0 0 0 8 ++ (value ++ [])) (notify 1 7 0xff 8 ++ (value ++ []))
unfolding example
given-alike = next_given value (same-part 0 1 7 0xff 8 8) refl refl (λ e. never (sym e)) same_given

set-alike : respond card (start_of (host.Set 1 1) ++ (notify 1 7 0xff 8 ++ value)) 8 ≡ respond card (start_of (host.Set 1 1) ++ (notify 0 0 0 8 ++ value)) 8
unfolding example
set-alike = headers-not-read.given card (start_of (host.Set 1 1)) _ _ 8 refl refl given-alike

-- ---- asked for, with another length too ----

asked-alike : SameAsked (notify 0 0 0 8 ++ []) (notify 1 7 0xff 5 ++ [])
asked-alike = next_asked (same-part 0 1 7 0xff 8 5) same_asked

get_alike : respond card (start_of (host.Get 1 0 0) ++ notify 1 7 0xff 5) 32 ≡ respond card (start_of (host.Get 1 0 0) ++ notify 0 0 0 8) 32
unfolding example
get_alike = headers-not-read.asked card (start_of (host.Get 1 0 0)) _ _ 32 refl refl asked-alike

-- it is set, and got: no refusal is meant
takes : take 8 (respond card (start_of (host.Set 1 1) ++ (notify 1 7 0xff 8 ++ value)) 8).1 ≡ replicate 8 0
unfolding example
takes = refl

gives : take 8 (respond card (start_of (host.Get 1 0 0) ++ notify 1 7 0xff 5) 32).1 ≡ replicate 8 0
unfolding example
gives = refl
