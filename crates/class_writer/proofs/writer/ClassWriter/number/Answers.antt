use Rattle.class_desc.specs.Layout.{NumberNeed}
use Rattle.class_writer.specs.Seen.{kind_seen}
use Rattle.class_writer.specs.Slots.{BehindLong, BehindDouble}
use Rattle.class_writer.proofs.Seen.{integer_takes, float_takes, long_takes, double_takes}
use Rattle.class_writer.proofs.Writes.{number_stays_found}
use Rattle.class_writer.proofs.writer.ClassWriter.number.Goals as goal

pub returns-in-Integer-clause-takes : goal.returns-in-Integer-clause-takes
returns-in-Integer-clause-takes c =
    integer_takes c.args.kind c.args.bits c.in-Integer.is c.in_ok-number.ensures.takes

pub returns-in-Float-clause-takes : goal.returns-in-Float-clause-takes
returns-in-Float-clause-takes c =
    float_takes c.args.kind c.args.bits c.in-Float.is c.in_ok-number.ensures.takes

pub returns-in_ok-find-in-Long-clause-takes : goal.returns-in_ok-find-in-Long-clause-takes
returns-in_ok-find-in-Long-clause-takes c =
    let found = c.in_ok-find-in-Long.field-0 in
    long_takes c.args.kind c.args.bits found.0 found.1 c.in-Long.is c.in_ok-number.ensures.takes
    c.in_ok-find-in-Long.ensures

pub returns-in_ok-find-in-Long-clause-number : goal.returns-in_ok-find-in-Long-clause-number
returns-in_ok-find-in-Long-clause-number c =
    let found = c.in_ok-find-in-Long.field-0 in
    number_stays_found (NumberNeed (kind_seen c.args.kind) c.args.bits) c.in_ok-number.number
    (BehindLong c.args.bits) found.0 found.1
    c.number_alone.new.self c.find.new.self c.in_ok-find-in-Long.ensures
    c.in_ok-number.ensures.number

pub returns-in_ok-find-in-Double-clause-takes : goal.returns-in_ok-find-in-Double-clause-takes
returns-in_ok-find-in-Double-clause-takes c =
    let found = c.in_ok-find-in-Double.field-0 in
    double_takes c.args.kind c.args.bits found.0 found.1 c.in-Double.is
    c.in_ok-number.ensures.takes c.in_ok-find-in-Double.ensures

pub returns-in_ok-find-in-Double-clause-number : goal.returns-in_ok-find-in-Double-clause-number
returns-in_ok-find-in-Double-clause-number c =
    let found = c.in_ok-find-in-Double.field-0 in
    number_stays_found (NumberNeed (kind_seen c.args.kind) c.args.bits) c.in_ok-number.number
    (BehindDouble c.args.bits) found.0 found.1
    c.number_alone.new.self c.find-in-Double.new.self c.in_ok-find-in-Double.ensures
    c.in_ok-number.ensures.number
