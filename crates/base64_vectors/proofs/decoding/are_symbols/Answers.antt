use Rattle.base64_vectors.proofs.Faults.{all_faultless, all_taken}
use Rattle.base64_vectors.proofs.decoding.are_symbols.Goals as goal

pub returns-clause-right : goal.returns-clause-right
returns-clause-right c =
    all_faultless c.args.a c.args.b c.args.c c.args.d c.faults_of.result c.faults_of-2.result c.faults_of-3.result c.faults_of-4.result
    c.fits-a.0 c.fits-b.0 c.fits-c.0 c.fits-d.0 c.faults_of.ensures c.faults_of-2.ensures c.faults_of-3.ensures c.faults_of-4.ensures

pub returns-clause-taken : goal.returns-clause-taken
returns-clause-taken c =
    all_taken c.args.a c.args.b c.args.c c.args.d c.faults_of.result c.faults_of-2.result c.faults_of-3.result c.faults_of-4.result
    c.fits-a.0 c.fits-b.0 c.fits-c.0 c.fits-d.0 c.faults_of.ensures c.faults_of-2.ensures c.faults_of-3.ensures c.faults_of-4.ensures
