use Rattle.std.proofs.Common.{◌≡◌, ◌∙◌, ◌++◌, ◌-◌, List, ℕ, ap, sym, append_assoc, arith}
use Rattle.std.specs.Prelude.{codes}
use Rattle.reg_sample.specs.Lines.{record_text, records}
use Rattle.reg_sample.proofs.Records.{records_more}
use Rattle.reg_sample.proofs.loading.table.Goals as goal

-- a record more is in the table
pub loop-number-preserved : goal.loop-number-preserved
loop-number-preserved c =
    let seed = c.args.seed in
    let size = c.args.size in
    let first = c.args.first in
    let number = c.loop-number.number in
    let head = codes "GROUP_NAME,SUBJECT_ID\\n" in
    let added : c.add_record.new.table.items ≡ c.loop-number.text.items ++ record_text seed size number = c.in_ok-add_record.ensures in
    record {
      text = added ∙ (ap (λ (l : List ℕ). l ++ record_text seed size number) c.loop-number.invariant.text ∙ (append_assoc head (records seed size first (number - first)) (record_text seed size number)
          ∙ ap (λ (l : List ℕ). head ++ l) (sym (records_more seed size first number c.loop-number.invariant.later))));
      later = omega (arith, c.loop-number.invariant.later);
      within = omega (arith, c.loop-number-test.true);
    }
