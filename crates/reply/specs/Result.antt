-- The result of each command, from byte 8 of the reply: SPEC 4. Assumes nothing.
use Rattle.std.specs.Prelude.{Result, Ok, Err, List, [], ◌∷◌, ◌++◌, ℕ, replicate}
use Rattle.wire.specs.Le.{bytes}
use Rattle.protocol.specs.declared.Refusal.{Refusal}
use Rattle.protocol.specs.Answers.{kind_number}
use Rattle.inventory.specs.Inventory.{part_count}
use Rattle.capture.specs.Capture.{Asked, headers_of, parts_written, capture_of}
use Rattle.protocol.specs.declared.Body.{Body}
use Rattle.protocol.specs.declared.Body.TheVariants.{Nothing, Kind, Number, Headers, Selected, All}

-- a number in 4 bytes, then four zero bytes
unfoldable pub number_bytes : ℕ → List ℕ
number_bytes n = bytes 4 n ++ replicate 4 0

-- queues and values are the member's, list the headers asked for. Seven zero bytes follow a kind; a metadata list is the
-- count of parts, then their headers
unfoldable pub result_of : ℕ → List ℕ → List ℕ → Body → List ℕ
result_of queues list values Nothing = []
result_of queues list values (Kind k) = kind_number k ∷ replicate 7 0
result_of queues list values (Number n) = number_bytes n
result_of queues list values Headers = number_bytes (part_count queues) ++ headers_of queues
result_of queues list values Selected = parts_written Asked queues list values
result_of queues list values All = capture_of queues values

-- a refusal has none
abbrev pub result_given : ℕ → List ℕ → List ℕ → Result Body Refusal → List ℕ
result_given queues list values (Ok b) = result_of queues list values b
result_given queues list values (Err a) = []
