-- A full capture and a later list of what changed: one part looked up in the pair, and one list made of it. 02, request 7.
-- Assumes nothing.
use Rattle.std.specs.Prelude.{Option, Some, None, Result, Ok, Err, Bool, true, not, List, [], ◌++◌, ℕ, zero, suc, ◌+◌, leb, eqb, length}
use Rattle.theory.specs.Logic.{when◌then◌else◌, unless◌answer◌then◌, ◌and◌, ◌or◌}
use Rattle.theory.specs.Bytes.{bytes_at, put}
use Rattle.theory.specs.Items.{items_from}
use Rattle.inventory.specs.declared.Row.{Row}
use Rattle.inventory.specs.Inventory.{row_at, row_count, present, parts_size, selector_of}
use Rattle.inventory.specs.Header.{header_of, header_size}
use Rattle.parts.specs.declared.ListForm.TheVariants.{Parts}
use Rattle.parts.specs.List.{PartList, end, cut, part, parts_of, among}
use Rattle.rules.specs.Rules.{known, cause_of, is_accepted}
use Rattle.difference.specs.declared.Span.{Span}
use Rattle.difference.specs.declared.Refusal.{Refusal}
use Rattle.difference.specs.declared.Refusal.TheVariants.{BadSetup, BadFull, BadLater, LacksPart, OutsideInventory, ShortBuffer}
use Rattle.difference.specs.declared.Place.{Place}
use Rattle.difference.specs.declared.Place.TheVariants.{Later, Full}

-- ---- where the value of a part stands ----

-- so many bytes from a place on
abbrev pub value : ℕ → ℕ → Option Span
value start len = Some (record { start = start; len = len })

-- the value of the first part with this type and selector; the parts stand one after the other from a position
unfoldable pub span_from : ℕ → ℕ → ℕ → PartList → Option Span
span_from t s at end = None
span_from t s at cut = None
span_from t s at (part p ps) =
    when eqb p.part_type t and eqb p.selector s then value (at + header_size) (length p.value) else
    span_from t s (at + header_size + length p.value) ps

abbrev pub span_of : ℕ → ℕ → List ℕ → Option Span
span_of t s l = span_from t s 0 (parts_of Parts l)

abbrev pub on_span {ℓ} : {A : Type ℓ} → Option Span → (ℕ → ℕ → A) → A → A
on_span (Some w) f a = f w.start w.len
on_span None f a = a

-- where a value stands, or why the call is refused
abbrev pub Lookup : Type 0
Lookup = Result Place Refusal

abbrev pub in_later : ℕ → ℕ → Lookup
in_later start len = Ok (Later start len)

abbrev pub in_full : ℕ → ℕ → Lookup
in_full start len = Ok (Full start len)

-- "the part of the later list that holds it, or of the full capture where the later list has none"; a full capture lacks none,
-- so the last answer is only given of other lists
unfoldable pub place_in : List ℕ → List ℕ → ℕ → ℕ → Lookup
place_in full later t s = on_span (span_of t s later) in_later (on_span (span_of t s full) in_full (Err LacksPart))

-- the bytes there
abbrev pub value_at : List ℕ → List ℕ → Lookup → List ℕ
value_at full later (Ok (Later start len)) = bytes_at start len later
value_at full later (Ok (Full start len)) = bytes_at start len full
value_at full later (Err e) = []

-- ---- the refusals ----

-- the list has the part of a row, if the member has it
unfoldable pub has_row : ℕ → PartList → Row → Bool
has_row queues ps r = not (present queues r) or among r.part_type r.selector ps

-- of k rows from the i-th on
unfoldable pub has_rows : ℕ → PartList → ℕ → ℕ → Bool
has_rows queues ps zero i = true
has_rows queues ps (suc k) i = has_row queues ps (row_at i) and has_rows queues ps k (i + 1)

-- it lacks no part of the inventory, whatever part is asked; device features are one too
abbrev pub is_full : ℕ → List ℕ → Bool
is_full queues l = has_rows queues (parts_of Parts l) row_count 0

-- The first that applies, in the order of 02. A bad setup, the first of all, is refused where the setup is read. `asked`: the
-- part asked is in the inventory; `room`: the buffer is long enough. A call that asks for no part, or has no buffer, passes.
abbrev pub Verdict : Type 0
Verdict = Result (Unit {0}) Refusal

unfoldable pub verdict_of : ℕ → List ℕ → List ℕ → List ℕ → Bool → Bool → Verdict
verdict_of queues features full later asked room =
    unless is_accepted (cause_of queues features full) answer Err BadFull then
    unless is_accepted (cause_of queues features later) answer Err BadLater then
    unless is_full queues full answer Err LacksPart then
    unless asked answer Err OutsideInventory then
    unless room answer Err ShortBuffer then
    Ok tt

abbrev pub number_of : Refusal → ℕ
number_of BadSetup = 1
number_of BadFull = 2
number_of BadLater = 3
number_of LacksPart = 4
number_of OutsideInventory = 5
number_of ShortBuffer = 6

-- 0 where nothing is refused
abbrev pub code_of : Verdict → ℕ
code_of (Ok u) = 0
code_of (Err e) = number_of e

-- a where nothing is refused
unfoldable pub on_verdict : {A : Type 0} → Verdict → (Refusal → A) → A → A
on_verdict (Ok u) refused a = a
on_verdict (Err e) refused a = refused e

-- ---- looking up one part ----

-- the selector is eight bytes, as in a card store: those that the type does not name are ignored
unfoldable pub lookup_of : ℕ → List ℕ → List ℕ → List ℕ → ℕ → ℕ → Lookup
lookup_of queues features full later t selector =
    on_verdict (verdict_of queues features full later (known queues t (selector_of t selector)) true) Err
    (place_in full later t (selector_of t selector))

-- what is answered, and left in the three numbers lent: the list, 0 the full capture or 1 the later list, the value's place in
-- it and its length
unfoldable pub lookup_told : Lookup → ℕ × (ℕ × (ℕ × ℕ))
lookup_told (Ok (Later start len)) = (0, (1, (start, len)))
lookup_told (Ok (Full start len)) = (0, (0, (start, len)))
lookup_told (Err e) = (number_of e, (0, (0, 0)))

-- ---- making one list ----

-- "each part of the inventory once with the value looked up, in table order with the table's headers"
unfoldable pub made_part : List ℕ → List ℕ → Row → List ℕ
made_part full later r = header_of r ++ value_at full later (place_in full later r.part_type r.selector)

unfoldable pub made_item : ℕ → List ℕ → List ℕ → ℕ → List ℕ
made_item queues full later i = when present queues (row_at i) then made_part full later (row_at i) else []

unfoldable pub made : ℕ → List ℕ → List ℕ → List ℕ
made queues full later = items_from (made_item queues full later) row_count 0

-- what is answered, how many bytes are written, and the buffer: "no refusal writes it", and no byte past the list changes
unfoldable pub merge_of : ℕ → List ℕ → List ℕ → List ℕ → List ℕ → ℕ × (ℕ × List ℕ)
merge_of queues features full later out =
    on_verdict (verdict_of queues features full later true (leb (parts_size queues) (length out)))
    (λ e. (number_of e, (0, out)))
    (0, (parts_size queues, put 0 (made queues full later) out))
