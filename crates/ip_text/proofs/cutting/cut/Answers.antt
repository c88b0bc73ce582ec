use Rattle.ip_text.proofs.Marks.{cut_found, cut_only, cut_never}
use Rattle.ip_text.proofs.cutting.cut.Goals as goal

pub returns-in_default-clause-only : goal.returns-in_default-clause-only
returns-in_default-clause-only c front rest lacks parts =
    cut_never c.args.mark c.args.text.now front rest c.in_default.ensures lacks parts

pub returns-clause-found : goal.returns-clause-found
returns-clause-found c = cut_found c.args.mark c.in-Some.place c.args.text.now c.in-Some.ensures

pub returns-clause-only : goal.returns-clause-only
returns-clause-only c front rest lacks parts =
    cut_only c.args.mark c.in-Some.place c.args.text.now front rest c.in-Some.ensures lacks parts
