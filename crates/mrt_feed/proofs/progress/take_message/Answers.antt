use Rattle.std.proofs.Common.{ap, sym, ◌∙◌}
use Rattle.mrt_feed.specs.MrtEvents.{is_told}
use Rattle.mrt_feed.proofs.Heads.{message_long}
use Rattle.mrt_feed.proofs.Progresses.{goes_untold, goes_up, goes_told, told_octets}
use Rattle.mrt_feed.proofs.progress.take_message.Goals as goal

pub message_kind-requires : goal.message_kind-requires
message_kind-requires c = message_long c.args.place.now.head c.args.sender.now c.args.count c.requires.whole c.requires.says

pub returns-then-not-is_told-clause-goes : goal.returns-then-not-is_told-clause-goes
returns-then-not-is_told-clause-goes c =
    let head = c.args.place.now.head in
    let sender = c.args.sender.now in
    rw (c.pass.ensures)
    (goes_untold c.args.peer c.args.place.now sender c.args.count c.requires.start c.requires.whole
    (message_long head sender c.args.count c.requires.whole c.requires.says) c.requires.says
    (ap (is_told c.args.peer sender) (sym c.message_kind.ensures) ∙ sym c.is_told.ensures ∙ c.if-not-is_told.true))

pub returns-in-None-clause-goes : goal.returns-in-None-clause-goes
returns-in-None-clause-goes c =
    let head = c.args.place.now.head in
    let sender = c.args.sender.now in
    rw (c.bring_up.ensures.place, c.bring_up.ensures.due)
    (goes_up c.args.peer c.args.place.now sender c.args.count c.requires.start c.requires.whole
    (message_long head sender c.args.count c.requires.whole c.requires.says) c.requires.says
    (ap (is_told c.args.peer sender) (sym c.message_kind.ensures) ∙ sym c.is_told.ensures ∙ c.if-not-is_told.false)
    c.in-None.is)

pub returns-in-Some-clause-goes : goal.returns-in-Some-clause-goes
returns-in-Some-clause-goes c =
    let head = c.args.place.now.head in
    let sender = c.args.sender.now in
    goes_told c.args.peer c.args.place.now c.go_on.new.place c.in-Some.made sender c.args.count c.go_on.result
    c.requires.start c.requires.whole
    (message_long head sender c.args.count c.requires.whole c.requires.says) c.requires.says
    (ap (is_told c.args.peer sender) (sym c.message_kind.ensures) ∙ sym c.is_told.ensures ∙ c.if-not-is_told.false)
    c.in-Some.is c.go_on.ensures.same c.go_on.ensures.other

pub returns-in-Some-clause-octets : goal.returns-in-Some-clause-octets
returns-in-Some-clause-octets c =
    let head = c.args.place.now.head in
    told_octets c.args.place.now c.go_on.new.place c.in-Some.made c.args.sender.now c.args.count c.go_on.result
    (message_long head c.args.sender.now c.args.count c.requires.whole c.requires.says)
    c.go_on.ensures.same c.go_on.ensures.other
