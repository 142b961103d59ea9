use Rattle.std.proofs.Common.{◌∙◌, arith, append_assoc}
use Rattle.ic_former.proofs.Building.{filled_up}
use Rattle.ic_former.proofs.migrating.header.Goals as goal

pub returns : goal.returns
returns c =
    c.in_ok-resize.ensures.items
    ∙ filled_up c.args.fingerprint.now c.args.owner c.args.slots.now c.push_slots.new.bytes.items _ c.told-fingerprint c.requires
    (grind (arith, append_assoc, c.in_ok-push_slots.ensures.items, c.in_ok-push.ensures.items, c.in_ok-extend_from_slice-2.ensures.items, c.in_ok-extend_from_slice.ensures.items, c.new-bytes.ensures.items))
    (omega (arith, c.told-fingerprint, c.in_ok-push_slots.ensures.len, c.in_ok-push.ensures.len, c.in_ok-extend_from_slice-2.ensures.len, c.in_ok-extend_from_slice.ensures.len, c.new-bytes.ensures.len))
