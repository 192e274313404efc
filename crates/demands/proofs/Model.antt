-- Every definition of the model, opened at once: an example that says `unfolding model` computes. Assumes nothing.
use Rattle.theory.specs.Logic.{when◌then◌else◌, unless◌answer◌then◌, ◌and◌, ◌or◌, within, indicator}
use Rattle.theory.specs.Bytes.{put, same}
use Rattle.theory.specs.Items.{items_from}
use Rattle.theory.specs.Machine.{trace, replies, run, seen, visible}
use Rattle.wire.specs.Le.{le, bytes, number}
use Rattle.protocol.specs.Opcodes.{opcode_rows, opcode_row, supported, fixed_size, names_member, bit, supported_only}
use Rattle.inventory.specs.Inventory.{rows as inventory_rows, row_at, present, offset_of, selector_of, is_row, seek, place_of}
use Rattle.inventory.specs.Header.{header_of}
use Rattle.inventory.specs.Queue.{power_below, ring_size, queue_allowed, value_allowed, queues_allowed}
use Rattle.parts.specs.List.{header_at, step_at, at_most, parts_from, whole, among}
use Rattle.rules.specs.Rules.{known, known_or_skipped, length_right, size_right, features_same, asks_known, every, repeated, cause_in, asked_in}
use Rattle.values.specs.Apply.{storable, stored, applied}
use Rattle.capture.specs.Capture.{header_item, headers_of, part_at, asks, part_item, parts_written}
use Rattle.objects.specs.Objects.{count, all_up_to, within_limits}
use Rattle.member.specs.Record.{member_of, member_bytes}
use Rattle.member.specs.Objects.{lookup_of, with_object}
use Rattle.member.specs.Member.{fresh_of}
use Rattle.member.specs.Sound.{sound_end, sound_mark, sound_front, sound_record}
use Rattle.changes.specs.Changes.{limited, create_of, modify_of, destroy_of, set_parts_of}
use Rattle.reads.specs.Reads.{query_of, through_get, selected_of}
use Rattle.card.specs.Layout.{setup_in, setup_of, in_use_of, with_in_use, record_bytes, with_record_bytes, member_in, with_member, counts_from, counts_of, is_marked, configuration_in, generation_in, with_configuration, no_configuration, holding_in, with_holding, no_bytes, record_of, with_record, fresh_header, fresh_records, fresh_card}
use Rattle.card.specs.Sound.{sound_setup, sound_up_to, is_sound}
use Rattle.setups.specs.Setup.{in_ranges, all, in_numbers}
use Rattle.events.specs.Events.{refused_setup, set_up, member_answer, if_done, on_member, with_handed_back, hand_back, wipe, reset_card, store_in, store}
use Rattle.frame.specs.Fields.{object_valid, flags_valid, kind_valid, create_in, modify_in, query_in, destroy_in, metadata_in, get_in, set_in, mode_in, use_in, fields_of}
use Rattle.frame.specs.Ask.{usable, reaches, attended, framed_of, ask_of}
use Rattle.reply.specs.Result.{number_bytes, result_of}
use Rattle.reply.specs.Reply.{head_of, final_of, reply_of, replied}
use Rattle.admin.specs.Command.{ask_in, perform, conclude, respond}
use Rattle.staging.specs.Staging.{with_held_bytes, without_held, member_refusal, open_refusal, if_none, on_member as on_restoring, on_open, begin_of, feed_of, finish_of, drop_of}
use Rattle.staging.specs.Claims.{joined as fragments_joined, fed}
use Rattle.message.specs.Format.{response_header, response_fields, response_of}
use Rattle.message.specs.Access.{is_request, read_in, write_in, whole_of, speaks_for}
use Rattle.message.specs.Message.{access_in, is_inside, readable, is_applied, next_generation, applied_to, act_of, fitting, answer_of, delivered, message_of}
use Rattle.demands.specs.Calls.{refused, step, names}
use Rattle.demands.specs.Statuses.{first_of, names_object, has_flags, has_kind, needs_get, bad_field, bad_list, asked_size, result_size, rows_at}
use Rattle.host.specs.Request.{sent_of, object_header, before, fixed_of, list_for, request, start_with, request_of}
use Rattle.demands.specs.Examples.{example_card, headers_listed, joined, nine_headers, nine_parts, worked_examples, replies_to, last_size}

unfoldable pub model : Unit {0}
unfolding when◌then◌else◌ unless◌answer◌then◌ ◌and◌ ◌or◌ within indicator put same items_from trace replies run seen visible le bytes number
    opcode_rows opcode_row supported fixed_size names_member bit supported_only
    inventory_rows row_at present offset_of selector_of is_row seek place_of power_below ring_size queue_allowed value_allowed queues_allowed header_of header_at step_at at_most parts_from
    known known_or_skipped length_right size_right features_same asks_known whole every among repeated cause_in asked_in storable stored applied
    header_item headers_of part_at asks part_item parts_written member_of member_bytes lookup_of with_object count all_up_to within_limits
    fresh_of sound_end sound_mark sound_front sound_record limited create_of modify_of destroy_of set_parts_of query_of through_get selected_of
    setup_in setup_of in_use_of with_in_use record_bytes with_record_bytes member_in with_member counts_from counts_of is_marked configuration_in generation_in with_configuration no_configuration holding_in with_holding no_bytes record_of with_record fresh_header fresh_records fresh_card sound_setup sound_up_to is_sound
    in_ranges all in_numbers refused_setup set_up member_answer if_done on_member with_handed_back hand_back wipe reset_card store_in store
    object_valid flags_valid kind_valid create_in modify_in query_in destroy_in metadata_in get_in set_in mode_in use_in fields_of
    usable reaches attended framed_of ask_of number_bytes result_of head_of final_of reply_of replied ask_in perform conclude respond
    with_held_bytes without_held member_refusal open_refusal if_none on_restoring on_open begin_of feed_of finish_of drop_of fragments_joined fed
    response_header response_fields response_of is_request read_in write_in whole_of speaks_for access_in is_inside readable is_applied next_generation applied_to act_of fitting answer_of delivered message_of
    refused step names
    first_of names_object has_flags has_kind needs_get bad_field bad_list asked_size result_size rows_at
    sent_of object_header before fixed_of list_for request start_with request_of example_card headers_listed joined nine_headers nine_parts worked_examples replies_to last_size
model = tt
