-- WHAT IS CLAIMED of a sheet and the captures that it counts, each a plain list of bytes. The numbers, names and words stand
-- here once more, apart from the definitions that the contracts cite. ../proofs/EncodingExample.antt has streams that meet the
-- hypotheses. Assumes nothing.
use Rattle.std.specs.Prelude.{◌≡◌, Bool, true, false, not, List, [], ◌∷◌, ◌++◌, ℕ, ◌+◌, ◌≤◌, ◌<◌, eqb, ltb, length, get_or, Result, Ok, Err}
use Rattle.theory.specs.Logic.{when◌then◌else◌, ◌and◌, indicator}
use Rattle.wire.specs.Le.{bytes, number}
use Rattle.decimal.specs.Decimal.{decimal}
use Rattle.setups.specs.declared.Setup.{Setup}
use Rattle.setups.specs.Reading.{read_version1}
use Rattle.parts.specs.declared.ListForm.TheVariants.{Parts}
use Rattle.parts.specs.List.{parts_of}
use Rattle.rules.specs.declared.Cause.{Cause}
use Rattle.rules.specs.declared.Cause.TheVariants.{Cut, Unknown, Length, Size, Features, Twice}
use Rattle.rules.specs.Rules.{cause_of}
use Rattle.tally.specs.Rows.{cause_line, parts_of_type}
use Rattle.figures.specs.Sheet.{first_count, sheet_of}

-- ---- captures joined ----

-- each behind its length in four bytes, the lowest first
unfoldable pub encoded : List (List ℕ) → List ℕ
encoded [] = []
encoded (c ∷ cs) = bytes 4 (length c) ++ (c ++ encoded cs)

-- each length is one of four bytes
pub record Encodable (cs : List (List ℕ)) : Type 0 where
  pub at : (i : ℕ) → length (get_or cs i []) < 4294967296

-- what follows them where the stream ends, and whether it is whole then: nothing; or the stream ends inside a length, or inside a
-- capture
pub data Left : List ℕ → Bool → Type 0 where
  nothing : Left [] true
  in_length : {rest : List ℕ} → 0 < length rest → length rest < 4 → Left rest false
  in_capture : {rest : List ℕ} → 4 ≤ length rest → length rest < 4 + number 0 4 rest → Left rest false

-- where n captures at most are taken: these are fewer, or as many, and then it is torn whatever follows
pub data Ending : ℕ → List (List ℕ) → List ℕ → Bool → Type 0 where
  fewer : {n : ℕ} {cs : List (List ℕ)} {rest : List ℕ} {ended : Bool} → length cs < n → Left rest ended → Ending n cs rest ended
  as_many : {n : ℕ} {cs : List (List ℕ)} {rest : List ℕ} → length cs ≡ n → Ending n cs rest false

-- ---- the sixteen numbers of captures ----

unfoldable pub sum_of : (List ℕ → ℕ) → List (List ℕ) → ℕ
sum_of f [] = 0
sum_of f (c ∷ cs) = f c + sum_of f cs

-- how many pass a test
unfoldable pub count_of : (List ℕ → Bool) → List (List ℕ) → ℕ
count_of test cs = sum_of (λ c. indicator (test c)) cs

unfoldable pub is_long : List ℕ → Bool
is_long c = ltb 4064 (length c)

-- it is not long, and this is the first cause that occurs anywhere in it
unfoldable pub is_under : ℕ → List ℕ → Result (Unit {0}) Cause → List ℕ → Bool
is_under queues features k c = not (is_long c) and eqb (cause_line (cause_of queues features c)) (cause_line k)

-- over accepted captures
unfoldable pub accepted_sum : ℕ → List ℕ → (List ℕ → ℕ) → List (List ℕ) → ℕ
accepted_sum queues features f cs = sum_of (λ c. when is_under queues features (Ok tt) c then f c else 0) cs

-- line by line
unfoldable pub numbers : ℕ → List ℕ → List (List ℕ) → List ℕ
numbers queues features cs =
    length cs
    ∷ count_of (is_under queues features (Ok tt)) cs
    ∷ count_of (is_under queues features (Err Cut)) cs
    ∷ count_of (is_under queues features (Err Unknown)) cs
    ∷ count_of (is_under queues features (Err Length)) cs
    ∷ count_of (is_under queues features (Err Size)) cs
    ∷ count_of (is_under queues features (Err Features)) cs
    ∷ count_of (is_under queues features (Err Twice)) cs
    ∷ count_of is_long cs
    ∷ accepted_sum queues features (λ c. parts_of_type queues 0x100 (parts_of Parts c)) cs
    ∷ accepted_sum queues features (λ c. parts_of_type queues 0x101 (parts_of Parts c)) cs
    ∷ accepted_sum queues features (λ c. parts_of_type queues 0x102 (parts_of Parts c)) cs
    ∷ accepted_sum queues features (λ c. parts_of_type queues 0x103 (parts_of Parts c)) cs
    ∷ accepted_sum queues features (λ c. parts_of_type queues 0x104 (parts_of Parts c)) cs
    ∷ accepted_sum queues features (λ c. parts_of_type queues 0x105 (parts_of Parts c)) cs
    ∷ accepted_sum queues features length cs
    ∷ []

-- ---- the text ----

-- the names of the sixteen lines, in their order
abbrev pub names : List (List ℕ)
names =
    (114 ∷ 101 ∷ 97 ∷ 100 ∷ [])  -- read
    ∷ (97 ∷ 99 ∷ 99 ∷ 101 ∷ 112 ∷ 116 ∷ 101 ∷ 100 ∷ [])  -- accepted
    ∷ (99 ∷ 117 ∷ 116 ∷ [])  -- cut
    ∷ (117 ∷ 110 ∷ 107 ∷ 110 ∷ 111 ∷ 119 ∷ 110 ∷ [])  -- unknown
    ∷ (108 ∷ 101 ∷ 110 ∷ 103 ∷ 116 ∷ 104 ∷ [])  -- length
    ∷ (115 ∷ 105 ∷ 122 ∷ 101 ∷ [])  -- size
    ∷ (102 ∷ 101 ∷ 97 ∷ 116 ∷ 117 ∷ 114 ∷ 101 ∷ 115 ∷ [])  -- features
    ∷ (116 ∷ 119 ∷ 105 ∷ 99 ∷ 101 ∷ [])  -- twice
    ∷ (108 ∷ 111 ∷ 110 ∷ 103 ∷ [])  -- long
    ∷ (48 ∷ 120 ∷ 49 ∷ 48 ∷ 48 ∷ [])  -- 0x100
    ∷ (48 ∷ 120 ∷ 49 ∷ 48 ∷ 49 ∷ [])  -- 0x101
    ∷ (48 ∷ 120 ∷ 49 ∷ 48 ∷ 50 ∷ [])  -- 0x102
    ∷ (48 ∷ 120 ∷ 49 ∷ 48 ∷ 51 ∷ [])  -- 0x103
    ∷ (48 ∷ 120 ∷ 49 ∷ 48 ∷ 52 ∷ [])  -- 0x104
    ∷ (48 ∷ 120 ∷ 49 ∷ 48 ∷ 53 ∷ [])  -- 0x105
    ∷ (98 ∷ 121 ∷ 116 ∷ 101 ∷ 115 ∷ [])  -- bytes
    ∷ []

-- a name, a space, the digits of a number, a line feed
unfoldable pub lines_of : List (List ℕ) → List ℕ → List ℕ
lines_of [] ns = []
lines_of (x ∷ xs) [] = []
lines_of (x ∷ xs) (n ∷ ns) = (x ++ (32 ∷ (decimal n ++ (10 ∷ [])))) ++ lines_of xs ns

-- `end whole`, `end torn`
abbrev pub end_whole : List ℕ
end_whole = 101 ∷ 110 ∷ 100 ∷ 32 ∷ 119 ∷ 104 ∷ 111 ∷ 108 ∷ 101 ∷ 10 ∷ []

abbrev pub end_torn : List ℕ
end_torn = 101 ∷ 110 ∷ 100 ∷ 32 ∷ 116 ∷ 111 ∷ 114 ∷ 110 ∷ 10 ∷ []

abbrev pub last_line : Bool → List ℕ
last_line true = end_whole
last_line false = end_torn

-- ---- the claims ----

-- a stream of bytes taken apart
pub record Apart (n : ℕ) (l : List ℕ) : Type 0 where
  pub captures : List (List ℕ)
  pub rest : List ℕ
  pub ended : Bool
  pub fit : Encodable captures
  pub ending : Ending n captures rest ended
  pub joined : l ≡ encoded captures ++ rest

-- captures, joined, fewer than 4,294,967,295
pub record Whole (l : List ℕ) : Type 0 where
  pub captures : List (List ℕ)
  pub fit : Encodable captures
  pub few : length captures < 4294967295
  pub joined : l ≡ encoded captures

-- the last bytes of a text
pub record EndsIn (last text : List ℕ) : Type 0 where
  pub before : List ℕ
  pub joined : text ≡ before ++ last

-- x: the bytes of a setup that is taken as s
pub record SheetOfCaptures : Type 0 where
  -- the sheet has the numbers of the captures before the end, and says how the stream ended
  pub sheet : (x : List ℕ) (s : Setup) (cs : List (List ℕ)) (rest : List ℕ) (ended : Bool)
      → length x ≡ 19 → read_version1 x ≡ Ok s → Encodable cs → Ending 4294967295 cs rest ended
      → sheet_of (x ++ (encoded cs ++ rest)) ≡ lines_of names (numbers (first_count s) s.features cs) ++ last_line ended
  -- there is no other stream
  pub every : (l : List ℕ) → ((i : ℕ) → get_or l i 0 < 256) → Apart 4294967295 l
  -- its last line is `end whole` exactly if it is whole, and else `end torn`
  pub whole : (x : List ℕ) (s : Setup) (l : List ℕ) → length x ≡ 19 → read_version1 x ≡ Ok s
      → Whole l → EndsIn end_whole (sheet_of (x ++ l))
  pub only_whole : (x : List ℕ) (s : Setup) (l : List ℕ) → length x ≡ 19 → read_version1 x ≡ Ok s
      → ((i : ℕ) → get_or l i 0 < 256) → EndsIn end_whole (sheet_of (x ++ l)) → Whole l
  pub torn : (x : List ℕ) (s : Setup) (l : List ℕ) → length x ≡ 19 → read_version1 x ≡ Ok s
      → ((i : ℕ) → get_or l i 0 < 256) → (Whole l → ⊥) → EndsIn end_torn (sheet_of (x ++ l))
