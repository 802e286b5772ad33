use Rattle.class_views.specs.Strip.{entry_begins, names_entry, stays_entry}
use Rattle.class_views.proofs.Staying.{least}
use Rattle.class_views.proofs.stripping.staying_entries_are_least.Goals as goal

pub returns : goal.returns
unfolding stays_entry
returns c = λ d entries. least (entry_begins d) names_entry entries
