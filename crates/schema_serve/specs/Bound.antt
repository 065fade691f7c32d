-- The address at which a service listens.
use Rattle.std.specs.Prelude.{◌≡◌, ◌≢◌, ℕ, List}
use Rattle.std.specs.Net.Grammar.{IsSocketText}
use Rattle.std.specs.Net.Socket.{socket_ip, socket_port}
use Rattle.std.specs.declared.net.SocketAddr.{SocketAddr}

-- it is the one that was asked for, with its port, unless that is 0, for which any will do
pub record IsBound (asked address : SocketAddr) : Type 0 where
  pub ip : socket_ip address ≡ socket_ip asked
  pub port : socket_port asked ≢ 0 → socket_port address ≡ socket_port asked

-- it is the one that a text asks for
pub record IsBoundBy (listen : List ℕ) (address : SocketAddr) : Type 0 where
  pub asked : SocketAddr
  pub text : IsSocketText listen asked
  pub bound : IsBound asked address
