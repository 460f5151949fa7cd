-- The classes of ASCII characters.
pub use Rattle.unicode_ident.proofs.IdentLemmas.{is_xid_start-ascii, is_xid_continue-ascii, is_xid_start-is_xid_continue}
