-- A job, without where its words lie in memory.
use Rattle.std.specs.Prelude.{Option, Some, None}
use Rattle.option_words.specs.Seen.{texts}
use Rattle.questions.specs.Asked.{ask_seen}
use Rattle.command_line.specs.declared.job.Refusal.{Refusal as ReadRefusal}
use Rattle.command_line.specs.declared.job.Refusal.TheVariants as refusal
use Rattle.command_line.specs.declared.job.Command.{Command as ReadCommand}
use Rattle.command_line.specs.declared.job.Command.TheVariants as command
use Rattle.command_line.specs.declared.job.Job.{Job as ReadJob}
use Rattle.command_line.specs.declared.job.Job.TheVariants as job
use Rattle.command_line.specs.Words.{Refusal, Archive, Help, Command, Ijar, Asks}
use Rattle.command_line.specs.Words.{Job, Refused, Doing}

abbrev pub refusal_seen : ReadRefusal → Refusal
refusal_seen (refusal.Archive word) = Archive word.now
refusal_seen refusal.Help = Help

abbrev pub command_seen : ReadCommand → Command
command_seen (command.Ijar inputs output) = Ijar (texts inputs.items) output.now
command_seen (command.Ask ask) = Asks (ask_seen ask)

abbrev pub maybe_command_seen : Option ReadCommand → Option Command
maybe_command_seen None = None
maybe_command_seen (Some command) = Some (command_seen command)

abbrev pub job_seen : ReadJob → Job
job_seen (job.Refused refusal) = Refused (refusal_seen refusal)
job_seen (job.Doing command) = Doing (command_seen command)
