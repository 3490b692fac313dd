use Rattle.std.proofs.Common.{length, take, arith, sym, ap, ◌∙◌}
use Rattle.crc8_entry.specs.Crc.{crc}
use Rattle.flash_map.proofs.Rounding.{padding}
use Rattle.fcb_ring.proofs.BuildLemmas.{room-first, room-second, room-third, field-short, built}
use Rattle.fcb_ring.proofs.image.write_record.Goals as goal

pub overflow_cast-body : goal.overflow_cast-body
overflow_cast-body c = let pad = padding c.args.unit c.requires.unit in omega (arith, pad.no_less (length c.args.body.now))

pub length_field-field-requires : goal.length_field-field-requires
length_field-field-requires c = let pad = padding c.args.unit c.requires.unit in omega (arith, pad.no_less (length c.args.body.now))

pub write_filled-field_end-requires-clause-small : goal.write_filled-field_end-requires-clause-small
write_filled-field_end-requires-clause-small c = field-short c.args.unit c.requires.unit c.args.body.now c.requires.short c.as_slice-2.result.now (c.as_slice-2.ensures.value ∙ c.length_field-field.ensures)

pub write_filled-body_end-requires-clause-small : goal.write_filled-body_end-requires-clause-small
write_filled-body_end-requires-clause-small c = let pad = padding c.args.unit c.requires.unit in omega (arith, c.requires.short, pad.no_less (length c.args.body.now))

pub write_filled-field_end-requires-clause-room : goal.write_filled-field_end-requires-clause-room
write_filled-field_end-requires-clause-room c =
    room-first c.args.unit c.requires.unit c.args.body.now c.requires.short c.as_slice-2.result.now (c.as_slice-2.ensures.value ∙ c.length_field-field.ensures) (length c.args.buffer.now) c.requires.room

pub write_filled-body_end-requires-clause-room : goal.write_filled-body_end-requires-clause-room
write_filled-body_end-requires-clause-room c =
    room-second c.args.unit c.requires.unit c.args.body.now c.requires.short c.as_slice-2.result.now (c.as_slice-2.ensures.value ∙ c.length_field-field.ensures)
    (length c.write_filled-field_end.new.buffer) (omega (arith, c.requires.room, c.write_filled-field_end.ensures.long))
    c.write_filled-field_end.result c.write_filled-field_end.ensures.end

pub write_filled-requires-clause-room : goal.write_filled-requires-clause-room
write_filled-requires-clause-room c =
    room-third c.args.unit c.requires.unit c.args.body.now c.requires.short c.as_slice-2.result.now (c.as_slice-2.ensures.value ∙ c.length_field-field.ensures)
    (length c.write_filled-body_end.new.buffer) (omega (arith, c.requires.room, c.write_filled-field_end.ensures.long, c.write_filled-body_end.ensures.long))
    c.write_filled-field_end.result c.write_filled-field_end.ensures.end c.write_filled-body_end.result c.write_filled-body_end.ensures.end

pub returns-clause-bytes : goal.returns-clause-bytes
returns-clause-bytes c =
    built c.args.unit c.requires.unit c.args.body.now c.requires.short c.as_slice-2.result.now (c.as_slice-2.ensures.value ∙ c.length_field-field.ensures)
    (take c.write_filled-field_end.result c.write_filled-field_end.new.buffer) (take c.write_filled-body_end.result c.write_filled-body_end.new.buffer) (take c.write_filled.result c.write_filled.new.buffer) c.crc8.result c.crc8-crc.result
    c.write_filled-field_end.ensures.bytes c.write_filled-body_end.ensures.bytes c.write_filled.ensures.bytes
    (c.crc8.ensures.value ∙ ap (crc 255) (c.as_slice.ensures.value ∙ sym c.as_slice-2.ensures.value)) c.crc8-crc.ensures.value (λ k. omega (arith, c.type_inv.body k))

pub returns-clause-within : goal.returns-clause-within
returns-clause-within c =
    let last = room-third c.args.unit c.requires.unit c.args.body.now c.requires.short c.as_slice-2.result.now (c.as_slice-2.ensures.value ∙ c.length_field-field.ensures)
    (length c.args.buffer.now) c.requires.room
    c.write_filled-field_end.result c.write_filled-field_end.ensures.end c.write_filled-body_end.result c.write_filled-body_end.ensures.end in
    omega (arith, last, c.write_filled.ensures.end, c.write_filled.ensures.long, c.write_filled-field_end.ensures.long, c.write_filled-body_end.ensures.long)
