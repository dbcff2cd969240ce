use Rattle.std.proofs.Common.{rules, subst, sym}
use Rattle.rs_demos.proofs.Ready.{ready}
use Rattle.rs_documents.specs.Ready.{DocumentIsReady}
use Rattle.rs_demos.proofs.sessions.demo_session_document.Goals as goal

pub returns-clause-document : goal.returns-clause-document
returns-clause-document c = search rules

pub returns-clause-ready : goal.returns-clause-ready
returns-clause-ready c = subst DocumentIsReady (sym (returns-clause-document c)) (ready c.args.kind c.args.count c.requires)
