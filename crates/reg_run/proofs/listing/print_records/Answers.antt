use Rattle.std.proofs.Common.{arith, refl, ◌∙◌, ◌∷◌, List, ℕ}
use Rattle.reg_run.specs.World.{out_of}
use Rattle.reg_run.proofs.Gathering.{all_lines, broke_at, handed, last_printed, left_over, nothing_yet, one_further, stopped_at}
use Rattle.reg_run.proofs.listing.print_records.Goals as goal

-- nothing was gone over yet
pub commands-init : goal.commands-init
commands-init g c = record {
  so_far = λ history read. nothing_yet c.args.places.now history _ c.new-listing.result c.args.records c.new-listing.ensures read;
  flushed = refl;
  later = omega arith;
}

-- one command more was
pub commands-preserved : goal.commands-preserved
commands-preserved g c =
    let places = c.args.places.now in
    let old = g.K.Sink.written c.args.out.now in
    let mid = g.K.Sink.written c.commands.out in
    let r : ℕ × List ℕ = (c.in-Some.at, c.in-Some.payload) in
    let rest = c.next_record.new.records in
    record {
      so_far = λ history read.
          let due = all_lines places c.args.records history in
          handed places due old mid (g.K.Sink.written c.hand_on.new.out) c.add_command.new.listing c.hand_on.new.listing rest
          (one_further places due old mid c.commands.listing c.add_command.new.listing r rest
          (left_over places due old mid c.commands.listing c.commands.records (r ∷ rest) c.in-Some.ensures.next (c.commands.invariant.so_far history read))
          (rw c.bytes.ensures at c.in_default-add_command.ensures.added)) c.in_default-hand_on.ensures.written;
      flushed = c.hand_on.ensures.flushed ∙ c.commands.invariant.flushed;
      later = omega (arith, c.hand_on.ensures.cause.later, c.commands.invariant.later);
    }

-- there was no memory, or a payload was no command's
pub returns-in-Err : goal.returns-in-Err
returns-in-Err g c held history read =
    let places = c.args.places.now in
    let k = g.K.Sink in
    let r : ℕ × List ℕ = (c.in-Some.at, c.in-Some.payload) in
    let due = all_lines places c.args.records history in
    stopped_at places held history c.args.records (out_of k c.args.out.now) (out_of k c.commands.out) c.commands.listing c.in-Some.at r c.next_record.new.records c.in-Err.end read
    (λ are. left_over places due (k.written c.args.out.now) (k.written c.commands.out) c.commands.listing c.commands.records (r ∷ c.next_record.new.records) c.in-Some.ensures.next (c.commands.invariant.so_far history are))
    c.commands.invariant.flushed (rw c.bytes.ensures at c.in-Err.ensures.refused)

-- the output failed
pub returns-in-Err-hand_on : goal.returns-in-Err-hand_on
returns-in-Err-hand_on g c held history read =
    let places = c.args.places.now in
    let k = g.K.Sink in
    let old = k.written c.args.out.now in
    let mid = k.written c.commands.out in
    let r : ℕ × List ℕ = (c.in-Some.at, c.in-Some.payload) in
    let rest = c.next_record.new.records in
    let due = all_lines places c.args.records history in
    broke_at places held history c.args.records (out_of k c.args.out.now) (out_of k c.hand_on.new.out) mid c.add_command.new.listing rest _ read
    (λ are. one_further places due old mid c.commands.listing c.add_command.new.listing r rest
    (left_over places due old mid c.commands.listing c.commands.records (r ∷ rest) c.in-Some.ensures.next (c.commands.invariant.so_far history are))
    (rw c.bytes.ensures at c.in_default-add_command.ensures.added)) c.in-Err-hand_on.ensures.front (c.hand_on.ensures.flushed ∙ c.commands.invariant.flushed) refl (omega (arith, c.commands.invariant.later, c.in-Err-hand_on.ensures.cause.failed))

-- the last lines were printed
pub returns : goal.returns
returns g c held history read =
    let k = g.K.Sink in
    last_printed c.args.places.now held history c.args.records (out_of k c.args.out.now) (out_of k c.commands.out) (out_of k c.print_line.new.out) c.commands.listing c.commands.records c.print_line.result read
    (λ are. c.commands.invariant.so_far history are) c.in_default.ensures.none c.commands.invariant.flushed c.commands.invariant.later (rw c.lines.ensures at c.print_line.ensures.put)
