use Rattle.std.proofs.Common.{rules}
use Rattle.std.proofs.lemmas.Result.{IfOk-weaker}
use Rattle.age_armor.proofs.reader.ArmoredReader+BufReader+R.new.Goals as goal

pub returns : goal.returns
returns g c =
    let made = c.new_buffered.ensures.opens in
    record {
      tells = search rules;
      steady = search rules;
      faults = search rules;
      unread = search rules;
      begins = IfOk-weaker c.new_buffered.result _ _
          (λ r begins. record { text = search rules; outcome = search rules; whole = search rules }) made.begins;
      place = search rules;
      content = search rules;
      rest = search rules;
      carries = λ told. rw (← c.in_ok-buffered.ensures.rest) (made.carries (rw c.in_ok-buffered.ensures.inner told));
      honest = λ bytes well carried. made.honest bytes (rw c.in_ok-buffered.ensures.rest well) (rw c.in_ok-buffered.ensures.rest carried);
      named = search rules;
      memory = search rules;
    }
