use Rattle.age_bench.proofs.OneFile.{is_bench_file, is_alone}
use Rattle.age_bench.proofs.BothForms.{is_carried, gives_back}
use Rattle.age_bench.proofs.BenchFiles as bench
use Rattle.age_bench.proofs.Unwrapped.{for_bench}
use Rattle.age_bench.proofs.laws.bench_file_laws.Goals as goal

pub returns : goal.returns
returns c =
    let payloads = c.payload_laws.ensures in
    let alone = is_alone c.header_text_reads_back.ensures c.verdict_is_unique.ensures payloads.length payloads.one_plaintext c.piece_law.ensures in
    let armored = c.armor_is_carrying.ensures.itself in
    record {
      is_file = bench.is_file is_bench_file;
      is_carried = bench.is_carried (is_carried armored payloads.length);
      gives_back = bench.gives_back (gives_back armored payloads.length c.carried_is_unique.ensures alone);
      is_for_bench = for_bench;
    }
