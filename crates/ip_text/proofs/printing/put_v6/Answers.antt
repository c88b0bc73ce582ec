use Rattle.std.proofs.Common.{append_assoc}
use Rattle.ip_text.proofs.printing.put_v6.Goals as goal

pub returns-clause-text : goal.returns-clause-text
returns-clause-text c =
    rw (
      c.put_half-2.ensures.text,
      c.push.ensures,
      c.put_half.ensures.text,
      c.group.ensures,
      c.group-2.ensures,
      c.group-3.ensures,
      c.group-4.ensures,
      c.group-5.ensures,
      c.group-6.ensures,
      c.group-7.ensures,
      c.group-8.ensures,
    ) (simp append_assoc)
