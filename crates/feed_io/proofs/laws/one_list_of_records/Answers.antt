use Rattle.feed_io.proofs.Packets.{record_is_on, records_begin, records_then, records_whole}
use Rattle.feed_io.proofs.laws.one_list_of_records.Goals as goal

pub returns-clause-whole : goal.returns-clause-whole
returns-clause-whole c = records_whole

pub returns-clause-begins : goal.returns-clause-begins
returns-clause-begins c = records_begin

pub returns-clause-next : goal.returns-clause-next
returns-clause-next c = records_then

pub returns-clause-off : goal.returns-clause-off
returns-clause-off c = record_is_on
