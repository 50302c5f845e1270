mod Steps
mod Failing
