use Rattle.std.proofs.Common.{rules, arith}
use Rattle.rs_bodies.proofs.PartReads.{has_read, has_stopped, keeps_behind, lacks_memory, sound_behind}
use Rattle.rs_bodies.proofs.parts.read_with.Goals as goal

pub returns-in_err-until-clause-err : goal.returns-in_err-until-clause-err
returns-in_err-until-clause-err c =
    let stopped = has_stopped c.args.part.now c.read_tokens.new.part c.in_err-until.field-0.0 c.args.bytes.now c.args.at c.requires.begun c.in_err-until.ensures.err c.in_err-until.ensures.left
    c.in_err-until.ensures.names in
    search (stopped, rules)

pub returns-in_err-until-clause-sound : goal.returns-in_err-until-clause-sound
returns-in_err-until-clause-sound c = sound_behind c.args.part.now c.args.bytes.now c.args.at _ c.requires.begun c.requires.sound c.in_err-until.ensures.names

pub returns-in_err-until-clause-kept : goal.returns-in_err-until-clause-kept
returns-in_err-until-clause-kept c = keeps_behind c.args.part.now c.args.bytes.now c.args.at _ c.requires.begun c.requires.sound c.in_err-until.ensures.names

pub returns-in_err-spelling-clause-err : goal.returns-in_err-spelling-clause-err
returns-in_err-spelling-clause-err c =
    let lacks = lacks_memory c.args.part.now c.read_tokens.new.part c.args.bytes.now c.args.at c.requires.begun c.in_ok-until.ensures.names in
    search (lacks, rules)

pub returns-in_err-spelling-clause-sound : goal.returns-in_err-spelling-clause-sound
returns-in_err-spelling-clause-sound c = sound_behind c.args.part.now c.args.bytes.now c.args.at _ c.requires.begun c.requires.sound c.in_ok-until.ensures.names

pub returns-in_err-spelling-clause-kept : goal.returns-in_err-spelling-clause-kept
returns-in_err-spelling-clause-kept c = keeps_behind c.args.part.now c.args.bytes.now c.args.at _ c.requires.begun c.requires.sound c.in_ok-until.ensures.names

pub returns-clause-ok : goal.returns-clause-ok
returns-clause-ok c =
    has_read c.args.part.now c.read_tokens.new.part c.args.bytes.now c.args.at c.in_ok-until.until c.requires.at c.requires.begun c.requires.sound c.in_ok-until.ensures.ok c.in_ok-until.ensures.within

pub returns-clause-spelling : goal.returns-clause-spelling
returns-clause-spelling c =
    let read = has_read c.args.part.now c.read_tokens.new.part c.args.bytes.now c.args.at c.in_ok-until.until c.requires.at c.requires.begun c.requires.sound c.in_ok-until.ensures.ok
    c.in_ok-until.ensures.within in
    let few = read.bounded in
    (c.in_ok-spelling.ensures.spelling, omega (arith, c.in_ok-spelling.ensures.count, few))

pub returns-clause-sound : goal.returns-clause-sound
returns-clause-sound c = sound_behind c.args.part.now c.args.bytes.now c.args.at _ c.requires.begun c.requires.sound c.in_ok-until.ensures.names

pub returns-clause-kept : goal.returns-clause-kept
returns-clause-kept c = keeps_behind c.args.part.now c.args.bytes.now c.args.at _ c.requires.begun c.requires.sound c.in_ok-until.ensures.names
