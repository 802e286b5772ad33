pub mod Annotated
