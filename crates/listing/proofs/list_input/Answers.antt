use Rattle.listing.proofs.Endings.{printed, read_tells}
use Rattle.listing.proofs.list_input.Goals as goal

pub returns-clause-printed_whole : goal.returns-clause-printed_whole
returns-clause-printed_whole c = λ whole h. printed (read_tells c.args.buffer.now c.args.count whole c.told-buffer h) c.list_front.ensures.printed
