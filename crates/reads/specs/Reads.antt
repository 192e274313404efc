-- The commands that read a member, SPEC 4.6, 4.8 and 4.9: steps 8 to 10 of SPEC 6.1. Assumes nothing.
use Rattle.std.specs.Prelude.{List, ℕ, Result, Ok, Err}
use Rattle.theory.specs.Logic.{unless◌answer◌then◌}
use Rattle.protocol.specs.declared.Refusal.{Refusal}
use Rattle.protocol.specs.declared.Refusal.TheVariants.{NotLive, WrongKind, BadList}
use Rattle.protocol.specs.declared.Metadata.{Metadata}
use Rattle.protocol.specs.declared.Metadata.TheVariants.{Size, Count, HeaderList}
use Rattle.protocol.specs.declared.ReadOp.{ReadOp}
use Rattle.protocol.specs.declared.ReadOp.TheVariants.{QueryObject, GetMetadata, GetSelected, GetAll}
use Rattle.protocol.specs.Answers.{is_get}
use Rattle.inventory.specs.Inventory.{part_count, parts_size}
use Rattle.rules.specs.Rules.{asked_of}
use Rattle.objects.specs.Objects.{on_found}
use Rattle.member.specs.declared.Member.{Member}
use Rattle.member.specs.Objects.{lookup_of}
use Rattle.protocol.specs.declared.Body.{Body}
use Rattle.protocol.specs.declared.Body.TheVariants.{Kind, Number, Headers, Selected, All}

unfoldable pub query_of : ℕ → Member → Result Body Refusal
query_of id m = on_found (lookup_of m id) (λ k. Ok (Kind k)) (Err NotLive)

abbrev pub metadata_of : ℕ → Metadata → Body
metadata_of queues Size = Number (parts_size queues)
metadata_of queues Count = Number (part_count queues)
metadata_of queues HeaderList = Headers

-- metadata and parts get need a live get object
unfoldable pub through_get : {A : Type 0} → ℕ → Member → Result A Refusal → Result A Refusal
through_get id m rest =
    on_found (lookup_of m id)
    (λ k. unless is_get k answer Err WrongKind then rest)
    (Err NotLive)

-- list holds the headers asked for
unfoldable pub selected_of : ℕ → List ℕ → Result Body Refusal
selected_of queues list = unless asked_of queues list answer Err BadList then Ok Selected

-- by the member's own queue count (02, request 9)
abbrev pub read_of : List ℕ → ReadOp → Member → Result Body Refusal
read_of list (QueryObject id) m = query_of id m
read_of list (GetMetadata id what) m = through_get id m (Ok (metadata_of m.queues what))
read_of list (GetSelected id) m = through_get id m (selected_of m.queues list)
read_of list (GetAll id) m = through_get id m (Ok All)
