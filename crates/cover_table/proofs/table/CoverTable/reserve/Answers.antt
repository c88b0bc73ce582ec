use Rattle.std.proofs.Common.{◌∙◌}
use Rattle.cover_table.proofs.table.CoverTable.reserve.Goals as goal

pub invariant_of-self : goal.invariant_of-self
invariant_of-self c = record {
  four = c.make_room.ensures.whole 32 c.self.invariant.four;
  six = c.self.invariant.six;
  highest_four = c.make_room.ensures.highest ∙ c.self.invariant.highest_four;
  highest_six = c.self.invariant.highest_six;
}

pub invariant_of-self-in-Ok : goal.invariant_of-self-in-Ok
invariant_of-self-in-Ok c = record {
  four = c.make_room.ensures.whole 32 c.self.invariant.four;
  six = c.make_room-2.ensures.whole 128 c.self.invariant.six;
  highest_four = c.make_room.ensures.highest ∙ c.self.invariant.highest_four;
  highest_six = c.make_room-2.ensures.highest ∙ c.self.invariant.highest_six;
}

pub invariant_of-self-in_default : goal.invariant_of-self-in_default
invariant_of-self-in_default c = record {
  four = c.lower_room.ensures.whole 32 (c.make_room.ensures.whole 32 c.self.invariant.four);
  six = c.make_room-2.ensures.whole 128 c.self.invariant.six;
  highest_four = c.lower_room.ensures.highest ∙ c.make_room.ensures.highest ∙ c.self.invariant.highest_four;
  highest_six = c.make_room-2.ensures.highest ∙ c.self.invariant.highest_six;
}
