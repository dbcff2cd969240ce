use Rattle.std.proofs.Common.{length}
use Rattle.rs_runs.proofs.transcript_texts.+push_transcripts.Given as goal

abbrev pub decreases-push_transcripts : goal.decreases-push_transcripts
decreases-push_transcripts l = length l.roles.now
