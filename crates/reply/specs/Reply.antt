-- The reply, SPEC 3.3: steps 11 and 12 of SPEC 6.1. Assumes nothing.
use Rattle.std.specs.Prelude.{is_ok, Err, List, [], ◌++◌, ℕ, ◌+◌, leb, length, replicate}
use Rattle.theory.specs.Logic.{when◌then◌else◌, unless◌answer◌then◌}
use Rattle.theory.specs.Bytes.{put}
use Rattle.wire.specs.Le.{bytes}
use Rattle.protocol.specs.declared.Refusal.TheVariants.{ShortReply}
use Rattle.protocol.specs.Answers.{Answer, status_of, qualifier_of}

-- status 2 bytes, qualifier 2, four zero bytes
abbrev pub head_size : ℕ
head_size = 8

unfoldable pub head_of : Answer → List ℕ
head_of a = bytes 2 (status_of a) ++ (bytes 2 (qualifier_of a) ++ replicate 4 0)

-- step 11: a success whose head and result do not fit the reply buffer is refused
unfoldable pub final_of : Answer → ℕ → ℕ → Answer
final_of a size room =
    when is_ok a then
    (unless leb (head_size + size) room answer Err ShortReply then a) else
    a

-- a refusal's reply is the head alone
unfoldable pub reply_of : Answer → List ℕ → List ℕ
reply_of a result = head_of a ++ (when is_ok a then result else [])

-- steps 11 and 12: the reply to a command that comes to this answer and this result
unfoldable pub replied : Answer → List ℕ → ℕ → List ℕ
replied a result room = reply_of (final_of a (length result) room) result

-- a reply written to a buffer: how many bytes it has, and the buffer, whose other bytes keep their values
unfoldable pub written : List ℕ → List ℕ → ℕ × List ℕ
written reply buffer = (length reply, put 0 reply buffer)
