use Rattle.transaction_machines.proofs.RowLaws.{invite_client_follows, invite_server_follows, other_client_follows, other_server_follows}
use Rattle.transaction_machines.proofs.state.advance.Goals as goal

pub returns-in-InviteClient-clause-follows : goal.returns-in-InviteClient-clause-follows
returns-in-InviteClient-clause-follows c =
    rw (c.advance_invite_client.ensures.row, c.in-InviteClient.is) (invite_client_follows c.in-InviteClient.state c.args.input)

pub returns-in-InviteServer-clause-follows : goal.returns-in-InviteServer-clause-follows
returns-in-InviteServer-clause-follows c =
    rw (c.advance_invite_server.ensures.row, c.in-InviteServer.is) (invite_server_follows c.in-InviteServer.state c.args.input)

pub returns-in-OtherClient-clause-follows : goal.returns-in-OtherClient-clause-follows
returns-in-OtherClient-clause-follows c =
    rw (c.advance_other_client.ensures.row, c.in-OtherClient.is) (other_client_follows c.in-OtherClient.state c.args.input)

pub returns-in-OtherServer-clause-follows : goal.returns-in-OtherServer-clause-follows
returns-in-OtherServer-clause-follows c =
    rw (c.advance_other_server.ensures.row, c.in-OtherServer.is) (other_server_follows c.in-OtherServer.state c.args.input)
