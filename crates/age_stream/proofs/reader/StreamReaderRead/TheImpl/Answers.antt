use Rattle.age_stream.proofs.reader.StreamReaderRead.TheImpl.Goals as goal

-- by clauses of its own
pub read-tells : goal.read-tells
read-tells g c = let said = c.ensures in record {
  reads = said.reads;
  besides = record {
    reads = said.reads;
    gives = said.gives;
    refuses = said.refuses;
    leaves = said.leaves;
    opens = said.opens;
    chunks = said.chunks;
  };
}
