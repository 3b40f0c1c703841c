use Rattle.codec.proofs.Insides.{asking-codec, letter-codec, login-codec, receipt-codec, ticket-codec}
use Rattle.codec.proofs.inside_laws.Goals as goal

pub returns : goal.returns
returns c =
    record {
      tickets = ticket-codec;
      letters = letter-codec;
      askings = asking-codec;
      logins = login-codec;
      receipts = receipt-codec;
    }
