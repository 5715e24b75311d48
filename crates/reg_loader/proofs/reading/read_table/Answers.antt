use Rattle.std.proofs.Common.{Bor, Bool, ◌<◌, ◌-◌, ◌^◌, ◌∙◌, ◌∷◌, ◌++◌, List, [], ℕ, Some, sym, refl, inl, inr, length, subst, arith}
use Rattle.csv.specs.Reading.{Reached, default_config, strip_bom}
use Rattle.csv.specs.Records.{fields_of}
use Rattle.csv.specs.declared.parser.State.TheVariants as st
use Rattle.csv.proofs.ReadFacts.{rows-end, rows-more}
use Rattle.reg_loader.specs.Readings.{IsReading}
use Rattle.reg_loader.specs.Tables.{Fields, Answers, Fails, table_in, table_of}
use Rattle.reg_loader.proofs.Judging.{all_stand, fault_stands, handed_on, roomy}
use Rattle.reg_loader.proofs.reading.read_table.Goals as goal

pub loop-row-init : goal.loop-row-init
unfolding Reached
loop-row-init c =
    let fr = c.from_reader-reader.ensures in
    let e = rw c.has_headers.ensures at c.flexible.ensures in
    let start = c.into_iter-row-iterator.ensures.into_iter_gives ∙ refl in
    let rdr = c.into_byte_records-row-items.ensures.rdr in
    let left = c.into_byte_records-row-items.ensures.left in
    rw (start, rdr) (record {
      plain = rw (e) at fr.trim ∙ c.new.ensures.trim;
      ready = inr (inr (rw e at fr.has_headers, fr.headers));
      left = left;
      config = rw e at fr.config ∙ c.new.ensures.config;
      list_is = c.new-reading.ensures.list_is;
      so_far = (strip_bom c.args.bytes.now, fr.source, [], (sym fr.state, refl), c.new-reading.ensures.none);
    })

pub take-requires : goal.take-requires
take-requires c =
    let inv = c.loop-row.invariant in
    let short : length c.args.bytes.now < 2 ^ 64 - 2 = omega arith in
    record { room = roomy c.args.list c.args.bytes.now inv.so_far.0 c.loop-row.row-iterator.rdr.state inv.so_far.2 c.loop-row.reading short inv.so_far.3 inv.so_far.4 }

pub loop-row-preserved : goal.loop-row-preserved
loop-row-preserved c =
    let inv = c.loop-row.invariant in
    let s = rw (c.in-Some.is, c.in-Ok.is) at ((c.next.ensures.steps inv.left inv.plain).0 inv.ready) in
    let m = rows-more (λ (s : Bor (List ℕ)). Some s.now) c.loop-row.row-iterator.rdr c.next.new.self.rdr (fields_of c.in-Ok.fields) default_config st.StartRecord (strip_bom c.args.bytes.now) inv.so_far.0 inv.so_far.2 inv.config inv.so_far.1 inv.so_far.3 s.0 in
    let at = subst (λ (list : Bool). IsReading list inv.so_far.2 c.loop-row.reading) (sym inv.list_is) inv.so_far.4 in
    record {
      plain = s.0.3 ∙ inv.plain;
      ready = inl s.1;
      left = s.2;
      config = s.0.2 ∙ inv.config;
      list_is = c.take.ensures.list ∙ inv.list_is;
      so_far = (
        m.0,
        m.1,
        inv.so_far.2 ++ fields_of c.in-Ok.fields ∷ [],
        m.2,
        subst (λ (list : Bool). IsReading list (inv.so_far.2 ++ fields_of c.in-Ok.fields ∷ []) c.take.new.self) inv.list_is (c.in_ok-take-in-Ok.ensures.taken inv.so_far.2 at),
      );
    }

pub returns-in_err-take-in-Ok : goal.returns-in_err-take-in-Ok
returns-in_err-take-in-Ok c =
    let inv = c.loop-row.invariant in
    let s = rw (c.in-Some.is, c.in-Ok.is) at ((c.next.ensures.steps inv.left inv.plain).0 inv.ready) in
    let m = rows-more (λ (s : Bor (List ℕ)). Some s.now) c.loop-row.row-iterator.rdr c.next.new.self.rdr (fields_of c.in-Ok.fields) default_config st.StartRecord (strip_bom c.args.bytes.now) inv.so_far.0 inv.so_far.2 inv.config inv.so_far.1 inv.so_far.3 s.0 in
    let at = subst (λ (list : Bool). IsReading list inv.so_far.2 c.loop-row.reading) (sym inv.list_is) inv.so_far.4 in
    let refused : (more : List Fields) → Fails (table_of c.args.list (inv.so_far.2 ++ fields_of c.in-Ok.fields ∷ more)) c.in_err-take-in-Ok.field-0.0
    = λ more. subst (λ (list : Bool). Fails (table_of list (inv.so_far.2 ++ fields_of c.in-Ok.fields ∷ more)) c.in_err-take-in-Ok.field-0.0) inv.list_is (c.in_err-take-in-Ok.ensures.refused inv.so_far.2 more at) in
    let wrong = fault_stands c.args.list c.args.bytes.now m.0 c.next.new.self.rdr.state inv.so_far.2 (fields_of c.in-Ok.fields) c.in_err-take-in-Ok.field-0.0 m.2 refused in
    handed_on (table_in c.args.list c.args.bytes.now) c.from_residual.result c.in_err-take-in-Ok.field-0.0 c.from_residual.ensures.1 wrong

pub returns : goal.returns
returns c =
    let inv = c.loop-row.invariant in
    let s = rw c.in-None.is at ((c.next.ensures.steps inv.left inv.plain).0 inv.ready) in
    let ends = rows-end (λ (s : Bor (List ℕ)). Some s.now) c.loop-row.row-iterator.rdr c.next.new.self.rdr [] default_config inv.so_far.0 inv.config inv.so_far.1 s in
    let at = subst (λ (list : Bool). IsReading list inv.so_far.2 c.loop-row.reading) (sym inv.list_is) inv.so_far.4 in
    all_stand c.args.list c.args.bytes.now inv.so_far.0 c.loop-row.row-iterator.rdr.state inv.so_far.2 c.finish.result inv.so_far.3 ends
    (subst (λ (list : Bool). Answers (table_of list inv.so_far.2) c.finish.result) inv.list_is (c.finish.ensures inv.so_far.2 at))
