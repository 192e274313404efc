-- A setup (01's term) whose members may differ in their queue counts, and its ranges: SPEC 2.1 and 02, request 9. Assumes
-- nothing.
use Rattle.std.specs.Prelude.{Bool, true, List, [], ◌∷◌, ℕ, leb, eqb, length, replicate}
use Rattle.theory.specs.Logic.{◌and◌, within}
use Rattle.theory.specs.Bytes.{put}
use Rattle.setups.specs.declared.Setup.{Setup}

abbrev pub most_members : ℕ
most_members = 16

abbrev pub features_size : ℕ
features_size = 16

-- N 1 to 16, G and S 0 to 8
unfoldable pub in_ranges : ℕ → ℕ → ℕ → Bool
in_ranges members gets sets = within 1 most_members members and leb gets 8 and leb sets 8

-- a test holds of each number
unfoldable pub all : (ℕ → Bool) → List ℕ → Bool
all f [] = true
all f (x ∷ l) = f x and all f l

-- a member's queue count, 1 to 4
abbrev pub is_count : ℕ → Bool
is_count q = within 1 4 q

-- the numbers of a setup, with one queue count for each member
unfoldable pub in_numbers : ℕ → List ℕ → ℕ → ℕ → Bool
in_numbers members queues gets sets = in_ranges members gets sets and eqb (length queues) members and all is_count queues

-- counts in the sixteen places of a setup; those of members past N are 0
unfoldable pub no_counts : List ℕ
no_counts = replicate most_members 0

unfoldable pub sixteen : List ℕ → List ℕ
sixteen counts = put 0 counts no_counts

abbrev pub setup_with : ℕ → List ℕ → ℕ → ℕ → List ℕ → Setup
setup_with members queues gets sets features =
    record { members = members; queues = sixteen queues; gets = gets; sets = sets; features = features }
