use Rattle.ip_text.proofs.Forms.{never_read, whole_only, right_never, joined_only, joined_found}
use Rattle.ip_text.proofs.groups.read_v6.Goals as goal

pub returns-in_default-clause-only : goal.returns-in_default-clause-only
returns-in_default-clause-only c = never_read c.args.text.now c.in_default.ensures.only

pub returns-in_default-after_gap-clause-only : goal.returns-in_default-after_gap-clause-only
returns-in_default-after_gap-clause-only c =
    whole_only c.args.text.now c.in-Some.left.count c.in-Some.left.value c.in-Some.left.rest.now c.in-Some.ensures.only
    c.whole.result c.in_default-after_gap.ensures.only c.whole.ensures

pub returns-in_default-read_side-clause-only : goal.returns-in_default-read_side-clause-only
returns-in_default-read_side-clause-only c =
    right_never c.args.text.now c.in-Some.left.count c.in-Some.left.value c.in-Some.left.rest.now c.in-Some.ensures.only
    c.in-Some-after_gap.after.now c.in-Some-after_gap.ensures.found c.in_default-read_side.ensures.only

pub returns-clause-found : goal.returns-clause-found
returns-clause-found c =
    joined_found c.args.text.now c.in-Some-after_gap.after.now c.in-Some.left.rest.now
    c.in-Some-read_side.right.rest.now c.in-Some.left.count c.in-Some.left.value c.in-Some-read_side.right.count
    c.in-Some-read_side.right.value c.joined.result c.in-Some.ensures.found c.in-Some-after_gap.ensures.found
    c.in-Some-read_side.ensures.found c.joined.ensures

pub returns-clause-only : goal.returns-clause-only
returns-clause-only c =
    joined_only c.args.text.now c.in-Some.left.count c.in-Some.left.value c.in-Some.left.rest.now c.in-Some.ensures.only
    c.in-Some-after_gap.after.now c.in-Some-after_gap.ensures.found c.in-Some-read_side.right.count
    c.in-Some-read_side.right.value c.in-Some-read_side.right.rest.now c.joined.result
    c.in-Some-read_side.ensures.only c.joined.ensures
