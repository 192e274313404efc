-- WORKED EXAMPLES of a stream and its sheet. The texts stand as bytes, apart from the definitions. Assumes nothing.
use Rattle.std.specs.Prelude.{List, [], ◌∷◌, ◌++◌, ℕ, length, replicate}
use Rattle.wire.specs.Le.{bytes}
use Rattle.setups.specs.Examples.{features}
use Rattle.figures.specs.Encoding.{encoded}

-- ---- a stream with captures of every kind ----

-- a setup of version 1: two members with four queues, G 1, S 1
abbrev pub four_queues : List ℕ
four_queues = 0x11 ∷ 0xc4 ∷ 0x40 ∷ features

-- a part: type, flags, selector, length, value
unfoldable pub part_bytes : ℕ → ℕ → ℕ → List ℕ → List ℕ
part_bytes t flags s value = bytes 2 t ++ (flags ∷ 0 ∷ (bytes 8 s ++ (bytes 4 (length value) ++ value)))

unfoldable pub common : ℕ → ℕ → List ℕ
common offset size = part_bytes 0x102 0 offset (replicate size 0)

unfoldable pub status : List ℕ
status = part_bytes 0x103 0 0 (15 ∷ [])

unfoldable pub queue_of : ℕ → ℕ → List ℕ
queue_of size k = part_bytes 0x104 0 k (size ∷ replicate 31 0)

unfoldable pub notify : ℕ → List ℕ
notify k = part_bytes 0x105 0 k (replicate 8 0)

-- captures that are refused, by the last cause first; each has all the causes after its own too, and earlier in it
unfoldable pub twice : List ℕ
twice = status ++ status

unfoldable pub other_features : List ℕ
other_features = twice ++ part_bytes 0x100 0 0 (replicate 16 0)

unfoldable pub no_ring : List ℕ
no_ring = other_features ++ queue_of 3 0

unfoldable pub wrong_length : List ℕ
wrong_length = no_ring ++ part_bytes 0x103 0 0 []

unfoldable pub unknown : List ℕ
unknown = wrong_length ++ part_bytes 0x106 0 0 []

unfoldable pub cut : List ℕ
cut = unknown ++ (7 ∷ [])

-- captures that are accepted: with a part of each type; with all but the device features; with one part that is skipped, of a
-- queue that the members have not got
unfoldable pub each_type : List ℕ
each_type =
    part_bytes 0x100 0 0 features ++ (part_bytes 0x101 0 0 features ++ (common 16 2 ++ (status ++ (queue_of 8 0 ++ notify 0))))

unfoldable pub all_but_features : List ℕ
all_but_features =
    part_bytes 0x101 0 0 features ++ (common 0 4 ++ (common 8 4 ++ (common 16 2 ++ (common 22 2 ++ (status
    ++ (queue_of 8 0 ++ (queue_of 8 1 ++ (queue_of 8 2 ++ (queue_of 8 3 ++ (notify 0 ++ (notify 1 ++ (notify 2 ++ notify 3))))))))))))

unfoldable pub one_skipped : List ℕ
one_skipped = status ++ (queue_of 8 3 ++ (notify 0 ++ (notify 1 ++ part_bytes 0x104 1 4 (9 ∷ []))))

-- so many of each kind that no two lines have the same number; the first is long, the last is empty
unfoldable pub captures : List (List ℕ)
captures =
    replicate 4065 0
    ∷ (replicate 2 cut ++ (replicate 3 unknown ++ (replicate 4 wrong_length ++ (replicate 5 no_ring ++ (replicate 6 other_features
    ++ (replicate 7 twice ++ (replicate 8 each_type ++ (all_but_features ∷ one_skipped ∷ [] ∷ []))))))))

unfoldable pub every_kind : List ℕ
every_kind = four_queues ++ encoded captures

abbrev pub every_kind_sheet : List ℕ
every_kind_sheet =
    114 ∷ 101 ∷ 97 ∷ 100 ∷ 32 ∷ 51 ∷ 57 ∷ 10  -- read 39
    ∷ 97 ∷ 99 ∷ 99 ∷ 101 ∷ 112 ∷ 116 ∷ 101 ∷ 100 ∷ 32 ∷ 49 ∷ 49 ∷ 10  -- accepted 11
    ∷ 99 ∷ 117 ∷ 116 ∷ 32 ∷ 50 ∷ 10  -- cut 2
    ∷ 117 ∷ 110 ∷ 107 ∷ 110 ∷ 111 ∷ 119 ∷ 110 ∷ 32 ∷ 51 ∷ 10  -- unknown 3
    ∷ 108 ∷ 101 ∷ 110 ∷ 103 ∷ 116 ∷ 104 ∷ 32 ∷ 52 ∷ 10  -- length 4
    ∷ 115 ∷ 105 ∷ 122 ∷ 101 ∷ 32 ∷ 53 ∷ 10  -- size 5
    ∷ 102 ∷ 101 ∷ 97 ∷ 116 ∷ 117 ∷ 114 ∷ 101 ∷ 115 ∷ 32 ∷ 54 ∷ 10  -- features 6
    ∷ 116 ∷ 119 ∷ 105 ∷ 99 ∷ 101 ∷ 32 ∷ 55 ∷ 10  -- twice 7
    ∷ 108 ∷ 111 ∷ 110 ∷ 103 ∷ 32 ∷ 49 ∷ 10  -- long 1
    ∷ 48 ∷ 120 ∷ 49 ∷ 48 ∷ 48 ∷ 32 ∷ 56 ∷ 10  -- 0x100 8
    ∷ 48 ∷ 120 ∷ 49 ∷ 48 ∷ 49 ∷ 32 ∷ 57 ∷ 10  -- 0x101 9
    ∷ 48 ∷ 120 ∷ 49 ∷ 48 ∷ 50 ∷ 32 ∷ 49 ∷ 50 ∷ 10  -- 0x102 12
    ∷ 48 ∷ 120 ∷ 49 ∷ 48 ∷ 51 ∷ 32 ∷ 49 ∷ 48 ∷ 10  -- 0x103 10
    ∷ 48 ∷ 120 ∷ 49 ∷ 48 ∷ 52 ∷ 32 ∷ 49 ∷ 51 ∷ 10  -- 0x104 13
    ∷ 48 ∷ 120 ∷ 49 ∷ 48 ∷ 53 ∷ 32 ∷ 49 ∷ 52 ∷ 10  -- 0x105 14
    ∷ 98 ∷ 121 ∷ 116 ∷ 101 ∷ 115 ∷ 32 ∷ 49 ∷ 57 ∷ 49 ∷ 49 ∷ 10  -- bytes 1911
    ∷ 101 ∷ 110 ∷ 100 ∷ 32 ∷ 119 ∷ 104 ∷ 111 ∷ 108 ∷ 101 ∷ 10  -- end whole
    ∷ []

-- ---- the sheets of a setup alone ----

abbrev pub bare_sheet : List ℕ
bare_sheet =
    114 ∷ 101 ∷ 97 ∷ 100 ∷ 32 ∷ 48 ∷ 10  -- read 0
    ∷ 97 ∷ 99 ∷ 99 ∷ 101 ∷ 112 ∷ 116 ∷ 101 ∷ 100 ∷ 32 ∷ 48 ∷ 10  -- accepted 0
    ∷ 99 ∷ 117 ∷ 116 ∷ 32 ∷ 48 ∷ 10  -- cut 0
    ∷ 117 ∷ 110 ∷ 107 ∷ 110 ∷ 111 ∷ 119 ∷ 110 ∷ 32 ∷ 48 ∷ 10  -- unknown 0
    ∷ 108 ∷ 101 ∷ 110 ∷ 103 ∷ 116 ∷ 104 ∷ 32 ∷ 48 ∷ 10  -- length 0
    ∷ 115 ∷ 105 ∷ 122 ∷ 101 ∷ 32 ∷ 48 ∷ 10  -- size 0
    ∷ 102 ∷ 101 ∷ 97 ∷ 116 ∷ 117 ∷ 114 ∷ 101 ∷ 115 ∷ 32 ∷ 48 ∷ 10  -- features 0
    ∷ 116 ∷ 119 ∷ 105 ∷ 99 ∷ 101 ∷ 32 ∷ 48 ∷ 10  -- twice 0
    ∷ 108 ∷ 111 ∷ 110 ∷ 103 ∷ 32 ∷ 48 ∷ 10  -- long 0
    ∷ 48 ∷ 120 ∷ 49 ∷ 48 ∷ 48 ∷ 32 ∷ 48 ∷ 10  -- 0x100 0
    ∷ 48 ∷ 120 ∷ 49 ∷ 48 ∷ 49 ∷ 32 ∷ 48 ∷ 10  -- 0x101 0
    ∷ 48 ∷ 120 ∷ 49 ∷ 48 ∷ 50 ∷ 32 ∷ 48 ∷ 10  -- 0x102 0
    ∷ 48 ∷ 120 ∷ 49 ∷ 48 ∷ 51 ∷ 32 ∷ 48 ∷ 10  -- 0x103 0
    ∷ 48 ∷ 120 ∷ 49 ∷ 48 ∷ 52 ∷ 32 ∷ 48 ∷ 10  -- 0x104 0
    ∷ 48 ∷ 120 ∷ 49 ∷ 48 ∷ 53 ∷ 32 ∷ 48 ∷ 10  -- 0x105 0
    ∷ 98 ∷ 121 ∷ 116 ∷ 101 ∷ 115 ∷ 32 ∷ 48 ∷ 10  -- bytes 0
    ∷ 101 ∷ 110 ∷ 100 ∷ 32 ∷ 119 ∷ 104 ∷ 111 ∷ 108 ∷ 101 ∷ 10  -- end whole
    ∷ []

-- `setup refused`
abbrev pub refused_sheet : List ℕ
refused_sheet =
    115 ∷ 101 ∷ 116 ∷ 117 ∷ 112 ∷ 32 ∷ 114 ∷ 101 ∷ 102 ∷ 117 ∷ 115 ∷ 101 ∷ 100 ∷ 10 ∷ []
