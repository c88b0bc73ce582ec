use Rattle.std.proofs.Common.{arith}
use Rattle.ip_text.proofs.Sides.{both_some, no_gap_of, alone_never, alone_only, alone_found, front_never, gap_found}
use Rattle.ip_text.proofs.Sides.{gap_only, full_never, more_only, more_found}
use Rattle.ip_text.proofs.groups.+read_on.Goals as goal

pub returns-in_default-read_group-clause-only : goal.returns-in_default-read_group-clause-only
returns-in_default-read_group-clause-only t c groups rest some few opens =
    alone_never c.args.text.now c.in_default.ensures.only rest groups c.in_default-read_group.ensures.only some opens

pub returns-in_default-clause-found : goal.returns-in_default-clause-found
returns-in_default-clause-found t c =
    alone_found c.args.count c.args.value c.with_group.result c.in-Some-read_group.group c.args.text.now
    c.in-Some-read_group.ensures.found c.with_group.ensures.value

pub returns-in_default-clause-only : goal.returns-in_default-clause-only
returns-in_default-clause-only t c groups rest some few opens =
    alone_only c.args.text.now c.in_default.ensures.only c.args.count c.args.value c.with_group.result
    c.in-Some-read_group.group rest groups c.in-Some-read_group.ensures.only c.with_group.ensures.value some opens

pub returns-in_default-read_group-2-clause-only : goal.returns-in_default-read_group-2-clause-only
returns-in_default-read_group-2-clause-only t c groups rest some few opens =
    front_never c.args.text.now c.in-Some.front.now c.in-Some.more.now c.in-Some.ensures.found c.in-Some.ensures.only
    rest groups c.in_default-read_group-2.ensures.only some opens

pub returns-then-begins_with_colon-clause-found : goal.returns-then-begins_with_colon-clause-found
returns-then-begins_with_colon-clause-found t c =
    gap_found c.args.text.now c.in-Some.front.now c.in-Some.more.now c.in-Some.ensures.found c.in-Some.ensures.only
    c.args.count c.args.value c.with_group-value.result c.in-Some-read_group-2.group
    c.in-Some-read_group-2.ensures.found c.with_group-value.ensures.value
    (c.begins_with_colon.ensures.0 c.if-begins_with_colon.true)

pub returns-then-begins_with_colon-clause-only : goal.returns-then-begins_with_colon-clause-only
returns-then-begins_with_colon-clause-only t c groups rest some few opens =
    gap_only c.args.text.now c.in-Some.front.now c.in-Some.more.now c.in-Some.ensures.found c.in-Some.ensures.only
    c.args.count c.args.value c.with_group-value.result c.in-Some-read_group-2.group rest groups
    c.in-Some-read_group-2.ensures.only c.with_group-value.ensures.value
    (c.begins_with_colon.ensures.0 c.if-begins_with_colon.true) some opens

pub returns-then-count-eq-GROUPS-clause-only : goal.returns-then-count-eq-GROUPS-clause-only
returns-then-count-eq-GROUPS-clause-only t c groups rest some few opens =
    full_never c.args.text.now c.in-Some.front.now c.in-Some.more.now c.in-Some.ensures.found c.in-Some.ensures.only
    (no_gap_of c.in-Some.more.now c.begins_with_colon.result c.begins_with_colon.ensures
    c.if-begins_with_colon.false) c.args.count rest groups (omega arith) some few opens

pub returns-clause-found : goal.returns-clause-found
returns-clause-found t c =
    both_some c.read_on.result _ _ _
    (λ s side grows. more_found c.args.count c.args.value c.with_group-value.result c.in-Some-read_group-2.group s.count
    s.value c.args.text.now c.in-Some.front.now c.in-Some.more.now s.rest.now c.in-Some.ensures.found
    c.in-Some-read_group-2.ensures.found c.with_group-value.ensures.value side grows)
    c.read_on.ensures.found c.read_on.ensures.more

pub returns-clause-only : goal.returns-clause-only
returns-clause-only t c groups rest some few opens =
    more_only c.args.text.now c.in-Some.front.now c.in-Some.more.now c.in-Some.ensures.found c.in-Some.ensures.only
    (no_gap_of c.in-Some.more.now c.begins_with_colon.result c.begins_with_colon.ensures
    c.if-begins_with_colon.false)
    c.read_on.result (λ s. s.count) (λ s. s.value) (λ s. s.rest.now) c.args.count c.args.value c.with_group-value.result
    c.in-Some-read_group-2.group rest groups c.in-Some-read_group-2.ensures.only c.with_group-value.ensures.value
    c.read_on.ensures.only some few opens
