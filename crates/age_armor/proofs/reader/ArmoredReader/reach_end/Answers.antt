use Rattle.std.proofs.Common.{◌∙◌, arith, ap}
use Rattle.age_error.specs.declared.io.SeekFrom.TheVariants.{End}
use Rattle.age_v1.specs.DeliveredArmor.{begins_armor}
use Rattle.age_armor.specs.Reader.{armored_reader}
use Rattle.age_armor.proofs.Keeping.{goes-error}
use Rattle.age_armor.proofs.Going.{reaches-end-later}
use Rattle.age_armor.proofs.reader.ArmoredReader.reach_end.Goals as goal

pub returns-in-Err-clause-end : goal.returns-in-Err-clause-end
returns-in-Err-clause-end g c =
    let now = c.in-Err.ensures in
    record {
      goes = goes-error armored_reader _ _ _ c.in-Err.e now.keeps;
      text = now.text;
      came = tt;
      end = λ told. tt;
      knows = tt;
      misses = λ d. now.misses (End d) (λ len past. tt);
    }

pub returns : goal.returns
returns g c =
    let before = c.args.self.now in
    let middle = c.find_form.new.self in
    let first = c.in-Ok.ensures in
    let same = first.keeps.same in
    let last = c.end_by_form.ensures in
    record {
      end = reaches-end-later g.R.Seek.seek_refuses before middle c.end_by_form.new.self c.end_by_form.result first.keeps first.text last.end;
      lands = λ told steady plain. last.lands (same.tells ∙ told) (same.steady ∙ steady)
          (ap (λ t. begins_armor t.bytes) (first.text.same_text told) ∙ plain)
          (first.known told steady plain (omega arith));
    }
