use Rattle.std.proofs.Common.{◌≡◌, rules, length, refl, inl, inr, arith}
use Rattle.age_error.specs.DecryptErrors.{decrypt_of_io}
use Rattle.age_error.specs.ErrorLemmas.{of_error}
use Rattle.age_io.specs.Keeping.{OrEarly}
use Rattle.age_format.proofs.HeaderReading.{io_of_error}
use Rattle.age_protocol.proofs.Fronts.{is_device}
use Rattle.age_protocol.proofs.front.read_nonce.Goals as goal

pub returns-in_err-read_exact : goal.returns-in_err-read_exact
returns-in_err-read_exact g c =
    let then = c.in_err-read_exact.ensures in
    let error = c.in_err-read_exact.field-0.0 in
    let sixteen : length c.read_exact.new.buf ≡ 16 = omega arith in
    let is = c.from_residual.ensures.1 in
    record {
      keeps = then.keeps.same;
      device = of_error _ _ (decrypt_of_io error) is (λ device. then.keeps.device (is_device error device));
      patient = search rules;
      io = of_error _ _ (decrypt_of_io error) is (io_of_error (OrEarly g.R.Read c.args.reader.now) error then.keeps.why);
      unspent = search rules;
      narrows = search rules;
      sixteen = search rules;
      rule = search rules;
      nonce = search rules;
      refused = λ told. of_error _ _ (decrypt_of_io error) is (inl (record {
        some = rw sixteen at (then.err told);
        error = error;
        is = refl;
        short = λ other quiet. rw sixteen at (then.early told other quiet);
      }));
    }

pub returns-then-not-keeps_scrypt_rule : goal.returns-then-not-keeps_scrypt_rule
returns-then-not-keeps_scrypt_rule g c =
    let then = c.in_ok-read_exact.ensures in
    record {
      keeps = then.keeps.same;
      device = λ device. absurd device;
      patient = λ interrupted. interrupted;
      io = tt;
      unspent = tt;
      narrows = tt;
      sixteen = tt;
      rule = tt;
      nonce = λ told. tt;
      refused = λ told. inr (record {
        nonce = c.read_exact.new.buf;
        sixteen = c.known_array.ensures;
        delivered = then.bytes told;
        moved = then.moves told;
        broken = λ rule. search rules;
        is = refl;
      });
    }

pub returns : goal.returns
returns g c =
    let then = c.in_ok-read_exact.ensures in
    record {
      keeps = then.keeps.same;
      device = tt;
      patient = tt;
      io = tt;
      unspent = search rules;
      narrows = search rules;
      sixteen = c.known_array.ensures;
      rule = search rules;
      nonce = λ told. (then.bytes told, then.moves told);
      refused = λ told. tt;
    }
