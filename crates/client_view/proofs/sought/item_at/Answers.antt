use Rattle.client_view.proofs.Meeting.{got}
use Rattle.client_view.proofs.sought.item_at.Goals as goal

pub returns : goal.returns
returns g c = got c.args.items.now c.args.place c.get.result c.get.ensures.lookup
