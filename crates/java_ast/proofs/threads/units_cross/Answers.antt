use Rattle.std.proofs.Crossing.{crosses}
use denote.Param.Send.{sendable}
use Rattle.hdr_core.proofs.list.List.TheSendSync.{the_send as list_send, the_sync as list_sync}
use Rattle.hdr_core.proofs.text.Text.TheSendSync.{the_send as text_send, the_sync as text_sync}
use Rattle.java_ast.proofs.Crossing.{declaration_send, declaration_sync}
use Rattle.java_ast.proofs.threads.units_cross.Goals as goal

pub crosses_threads-requires-send-T : goal.crosses_threads-requires-send-T
crosses_threads-requires-send-T c κs =
    search (declaration_send, list_send, text_send, sendable, crosses) depth 40

pub crosses_threads-requires-sync-T : goal.crosses_threads-requires-sync-T
crosses_threads-requires-sync-T c κs =
    search (declaration_sync, list_sync, text_sync, sendable, crosses) depth 40
