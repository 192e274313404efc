-- The worked examples hold by computation. Assumes nothing.
use mathlib.Core.Path.{refl}
use Rattle.theory.specs.Logic.{when◌then◌else◌, unless◌answer◌then◌, ◌or◌}
use Rattle.wire.specs.Le.{le, bytes, number}
use Rattle.protocol.specs.Opcodes.{opcode_rows, opcode_row, supported, fixed_size}
use Rattle.inventory.specs.Inventory.{selector_of}
use Rattle.parts.specs.List.{header_at, step_at, at_most, parts_from, whole}
use Rattle.host.specs.Request.{sent_of, object_header, before, fixed_of, list_for, request, start_with, request_of}
use Rattle.host.specs.Reply.{form_of, count_fits, result_fits, length_right, known_status, handled_status, handled_qualifier, read_reply}
use Rattle.host.specs.Examples.{requests, RequestsBuilt, replies, RepliesRead}

pub requests-built : RequestsBuilt
unfolding when◌then◌else◌ bytes opcode_rows opcode_row fixed_size sent_of object_header before fixed_of list_for request start_with request_of requests
requests-built = refl

pub replies-read : RepliesRead
unfolding when◌then◌else◌ unless◌answer◌then◌ ◌or◌ le number opcode_rows opcode_row supported selector_of header_at step_at at_most parts_from whole
    form_of count_fits result_fits length_right known_status handled_status handled_qualifier read_reply replies
replies-read = refl
